use Rattle.std.proofs.Common.{◌≡◌, length, rules}
use Rattle.sheet.specs.laws.Printing.{answer_fits_page}
use Rattle.sheet.proofs.answer.Goals as goal

pub returns-clause-fits_page : goal.returns-clause-fits_page
returns-clause-fits_page c =
    let room : length c.write_answer-n.new.page ≡ 24600 = search rules in
    answer_fits_page _ _ _ _ room c.write_answer-n.ensures
