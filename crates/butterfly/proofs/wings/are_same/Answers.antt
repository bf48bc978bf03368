use Rattle.std.proofs.Common.{◌≡◌, true, Bool, List, ℕ, ◌+◌, ◌-◌, ◌<◌, ℤ, pos, get_or, take, drop, sym, ap, ◌∙◌, arith}
use Rattle.std.specs.Ordering.{int_eq}
use Rattle.std.specs.Cmp.Lexicographic.{pointwise}
use Rattle.std.proofs.lemmas.Bool.Decides.{Decides-int_eq}
use Rattle.std.proofs.lemmas.List.{get_or-take, get_or-drop}
use Rattle.std.proofs.lemmas.Slice.Eq.{slice_eq-Decides}
use Rattle.butterfly.proofs.wings.are_same.Goals as goal

same_lists : (xs ys : List ℤ) (r : Bool) → r ≡ pointwise int_eq xs ys → r ≡ true → xs ≡ ys
same_lists xs ys r e = (slice_eq-Decides Decides-int_eq xs ys r e).0

module _ (n : ℕ) (i : ℕ) (l : i < n) where
  first : (xs ys : List ℤ) → take n xs ≡ take n ys → get_or xs i (pos 0) ≡ get_or ys i (pos 0)
  first xs ys e = sym (get_or-take n xs i (pos 0) l) ∙ ap (λ zs. get_or zs i (pos 0)) e ∙ get_or-take n ys i (pos 0) l

  second : (xs ys : List ℤ) → take n (drop 8 xs) ≡ take n (drop 8 ys) → get_or xs (8 + i) (pos 0) ≡ get_or ys (8 + i) (pos 0)
  second xs ys e = sym (get_or-drop 8 xs i (pos 0)) ∙ first (drop 8 xs) (drop 8 ys) e ∙ get_or-drop 8 ys i (pos 0)

pub returns-then-eq : goal.returns-then-eq
returns-then-eq c e i l = (
  first c.args.count i l c.args.a.now c.args.b.now (same_lists _ _ _ c.eq.ensures c.if-eq.true),
  second (8 + c.args.count - 8) i (omega arith) c.args.a.now c.args.b.now (same_lists _ _ _ c.eq-then-eq.ensures e),
)
