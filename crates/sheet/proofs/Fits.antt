-- What a sheet whose text fits says of its size, one fact to a lemma, as `grind` applies them.
-- Assumes nothing.
use Rattle.std.proofs.Common.{◌≡◌, Ok, List, ℕ, ◌+◌, ◌≤◌, length}
use Rattle.refusal.specs.Refusals.{first_of}
use Rattle.text.specs.Text.{cut}
use Rattle.rows.specs.Lines.{message_bits, text_checks}
use Rattle.rows.specs.laws.Fitting.{fitting}

module _ (sheet : List ℕ) (fits : first_of (text_checks sheet) ≡ Ok tt) where
  pub some_bits : 1 ≤ message_bits sheet
  some_bits = (fitting sheet fits).some_bits

  pub few_bits : message_bits sheet ≤ 512
  few_bits = (fitting sheet fits).few_bits

  pub cut_long : length (cut 10 sheet) ≡ message_bits sheet + 4
  cut_long = (fitting sheet fits).cut_long

pub ruleset fits = (some_bits, few_bits, cut_long)
