-- The front of a list that is lent and comes back: its length, and what the list says of it then.
-- Assumes nothing.
use Rattle.std.specs.Prelude.{◌≡◌, List, ◌++◌, ℕ, ◌+◌, ◌-◌, ◌≤◌, length, take, drop, replicate}
use Rattle.std.proofs.Common.{sym, ap, ◌∙◌, arith, length-take-le, take_at}
use Rattle.std.proofs.lemmas.List.{length-replicate, replicate-append-replicate}
use Rattle.std.proofs.Math.Seq.{length_front}

-- the first n entries of xs came back as `front`
pub record Back {A : Type 0} (n : ℕ) (xs front : List A) : Type 0 where
  pub long : length front ≡ n
  pub within : n ≤ length (front ++ drop n xs)
  pub is : take n (front ++ drop n xs) ≡ front

module _ {A : Type 0} (n : ℕ) (xs : List A) (within : n ≤ length xs) where
  pub front_long : n ≡ length (take n xs)
  front_long = sym (length-take-le n xs within)

  -- a list that is lent keeps its length
  pub front_back : {front : List A} → length front ≡ length (take n xs) → Back n xs front
  front_back {front} same =
      let long : length front ≡ n = same ∙ sym front_long in
      record { long = long; within = rw (length_front xs front n same) within; is = take_at front (drop n xs) n long }

-- the front of a list of one entry over and over
pub front_replicate : {A : Type 0} (n m : ℕ) (x : A) → n ≤ m → take n (replicate m x) ≡ replicate n x
front_replicate n m x h =
    let e : m ≡ n + (m - n) = omega arith in
    ap (λ (k : ℕ). take n (replicate k x)) e
    ∙ ap (λ (l : List _). take n l) (sym (replicate-append-replicate n (m - n) x))
    ∙ take_at (replicate n x) (replicate (m - n) x) n (length-replicate n x)
