-- What is returned for equal numbers and indexes; what is written, where the lengths agree and where not.
-- Assumes nothing.
use Rattle.std.specs.Prelude.{◌≡◌, List, ℕ, length}
use Rattle.std.proofs.Common.{ap, ap₂, eq-eqb, ne_eqb}
use Rattle.refusal.specs.Refusals.{told, number_of, check, ◌then◌, first_of, after}
use Rattle.capi.specs.Returned.{returned, indexed, written_checks, written}

pub same_number : {A : Type 0} {n m : ℕ} {lists : A} → n ≡ m → returned n lists ≡ returned m lists
same_number {A} {n} {m} {lists} e = ap (λ (k : ℕ). returned k lists) e

pub same_index : {A : Type 0} {n m i j : ℕ} {lists : A} → n ≡ m → i ≡ j → indexed n i lists ≡ indexed m j lists
same_index {A} {n} {m} {i} {j} {lists} e f = ap₂ (λ (k l : ℕ). indexed k l lists) e f

pub same_entries : {xs ys : List ℕ} (list : List ℕ) → xs ≡ ys → written xs list ≡ written ys list
same_entries list e = ap (λ (zs : List ℕ). written zs list) e

pub written_done : (xs list : List ℕ) → length list ≡ length xs → written xs list ≡ returned 0 xs
unfolding written written_checks first_of check ◌then◌ number_of after
written_done xs list e = rw (eq-eqb _ _ e)

pub written_refused : (xs list : List ℕ) → (length list ≡ length xs → ⊥) → written xs list ≡ returned 5 list
unfolding written written_checks first_of check ◌then◌ number_of after told
written_refused xs list h = rw (ne_eqb _ _ h)
