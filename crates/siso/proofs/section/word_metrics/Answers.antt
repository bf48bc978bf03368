use Rattle.std.specs.Prelude.{◌≡◌, List, ℕ, ℤ, ◌^◌, pos, length, get_or}
use Rattle.std.proofs.Common.{ap, ◌∙◌}
use Rattle.integers.specs.laws.Bounds.{Within}
use Rattle.integers.specs.laws.Laws.{within_zero}
use Rattle.integers.specs.laws.Linear.{fits_of}
use Rattle.trellis.specs.Path.{word_metric}
use Rattle.siso.proofs.Parts.{kept_four, zero_fits}
use Rattle.siso.proofs.Words.{value_within, four_within, four, two}
use Rattle.siso.proofs.section.word_metrics.Goals as goal

abbrev Small : List ℤ → Type 0
Small ys = (l : ℕ) → Within 1023 (get_or ys l (pos 0))

-- the word w has the metric that the values xs give it
abbrev Gives : List ℤ → ℕ → List ℤ → Type 0
Gives xs w ys = word_metric (λ l. get_or ys l (pos 0)) w 4 ≡ word_metric (λ l. get_or xs l (pos 0)) w (length xs)

pub put_words-requires : goal.put_words-requires
put_words-requires c =
    let within = value_within 1023 c.args.channel.now c.requires.by_index in
    record {
      within = kept_four Small c.value.result c.value-then-channel-eq2.result (pos 0) (pos 0) (fits_of c.value.type_inv) (fits_of c.value-then-channel-eq2.type_inv) zero_fits zero_fits
          (rw (c.value.ensures, c.value-then-channel-eq2.ensures) (four_within (within 0) (within 1) (within_zero 1023) (within_zero 1023)));
      g_len = c.requires.g_len ∙ ap (λ (m : ℕ). 2 ^ m) c.if-channel-eq2.true;
    }

pub put_words-requires-else-channel-eq2-clause-within : goal.put_words-requires-else-channel-eq2-clause-within
put_words-requires-else-channel-eq2-clause-within c =
    let within = value_within 1023 c.args.channel.now c.requires.by_index in
    kept_four Small c.value-else-channel-eq2.result c.value-else-channel-eq2-2.result c.value-else-channel-eq2-3.result c.value-else-channel-eq2-4.result
    (fits_of c.value-else-channel-eq2.type_inv) (fits_of c.value-else-channel-eq2-2.type_inv) (fits_of c.value-else-channel-eq2-3.type_inv) (fits_of c.value-else-channel-eq2-4.type_inv)
    (rw (c.value-else-channel-eq2.ensures, c.value-else-channel-eq2-2.ensures, c.value-else-channel-eq2-3.ensures, c.value-else-channel-eq2-4.ensures)
    (four_within (within 0) (within 1) (within 2) (within 3)))

pub returns-then-channel-eq2 : goal.returns-then-channel-eq2
returns-then-channel-eq2 c w h =
    let xs = c.args.channel.now in
    c.put_words.ensures w h
    ∙ kept_four (Gives xs w) c.value.result c.value-then-channel-eq2.result (pos 0) (pos 0)
    (fits_of c.value.type_inv) (fits_of c.value-then-channel-eq2.type_inv) zero_fits zero_fits
    (rw (c.value.ensures, c.value-then-channel-eq2.ensures) (two xs w c.if-channel-eq2.true))

pub returns-else-channel-eq2 : goal.returns-else-channel-eq2
returns-else-channel-eq2 c w h =
    let xs = c.args.channel.now in
    c.put_words-else-channel-eq2.ensures w h
    ∙ kept_four (Gives xs w) c.value-else-channel-eq2.result c.value-else-channel-eq2-2.result c.value-else-channel-eq2-3.result c.value-else-channel-eq2-4.result
    (fits_of c.value-else-channel-eq2.type_inv) (fits_of c.value-else-channel-eq2-2.type_inv) (fits_of c.value-else-channel-eq2-3.type_inv) (fits_of c.value-else-channel-eq2-4.type_inv)
    (rw (c.value-else-channel-eq2.ensures, c.value-else-channel-eq2-2.ensures, c.value-else-channel-eq2-3.ensures, c.value-else-channel-eq2-4.ensures)
    (four xs w c.requires.channel_len_bound))
