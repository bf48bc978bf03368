-- No whole number is nearer to a / b than `closest a b`, and of two that are as near it is the even one.
-- Assumes nothing.
use Rattle.std.specs.Prelude.{◌≡◌, ◌⊎◌, ◌≢◌, ℕ, suc, ◌+◌, ◌-◌, ◌*◌, ◌/◌, ◌%◌, ◌≤◌, ◌<◌, ℤ, pos, negsuc, ◌-ℤ◌, ◌*ℤ◌, nat_abs}
use Rattle.std.proofs.Common.{sym, ap, ◌∙◌, inl, inr, ⊎_elim, div-add-mod', mod-lt, mul_comm, mul-le-mul_left, mul-suc, mul-zero, add-one, arith}
use Rattle.std.proofs.Math.Decide.{dec_lt, ℕ_discrete}
use Rattle.std.specs.Float.Ieee.Nearest.{closest}
use Rattle.integers.specs.laws.Linear.{ints}
use Rattle.samples.specs.laws.Rounding.{closest_down, closest_up, closest_even}

-- how far a is from n
abbrev gap : ℕ → ℕ → ℕ
gap a n = (a - n) + (n - a)

-- a is b·q + r with r below b. Of the numbers n, those up to q are at least r away, and those from q + 1 on at least b - r
module _ (a b q r : ℕ) (parts : b * q + r ≡ a) (less : r < b) where
  gap_down : gap a (b * q) ≡ r
  gap_down = omega arith

  gap_up : gap a (b * suc q) ≡ b - r
  gap_up = omega (arith, mul-suc b q)

  up_to : (n : ℕ) → n ≤ q → r ≤ gap a (b * n)
  up_to n h = omega (arith, mul-le-mul_left b h)

  from : (n : ℕ) → q < n → b - r ≤ gap a (b * n)
  from n h = omega (arith, mul-suc b q, mul-le-mul_left b h)

  below : (n : ℕ) → n < q → r + b ≤ gap a (b * n)
  below n h = omega (arith, mul-suc b n, mul-le-mul_left b h)

  above : (n : ℕ) → suc q < n → (b - r) + b ≤ gap a (b * n)
  above n h = omega (arith, mul-suc b q, mul-suc b (suc q), mul-le-mul_left b h)

module _ (a b : ℕ) (some : 0 < b) where
  abbrev q : ℕ
  q = a / b

  abbrev r : ℕ
  r = a % b

  parts : b * q + r ≡ a
  parts = ap (λ (x : ℕ). x + r) (mul_comm b q) ∙ div-add-mod' a b

  less : r < b
  less = mod-lt a some

  -- rounded down with at most a half over, or up with at least a half; and where it is a half, to the even one
  pub record Rounded (c : ℕ) : Type 0 where
    pub either : ((c ≡ q) × (r * 2 ≤ b)) ⊎ ((c ≡ suc q) × (b ≤ r * 2))
    pub even : r * 2 ≡ b → c % 2 ≡ 0

  rounded : Rounded (closest a b)
  rounded = elim (dec_lt (r * 2) b) [
    | yes low ↦ record { either = inl (sym (closest_down a b low), omega arith); even = λ e. absurd (omega arith) }
    | no not_low ↦ elim (dec_lt b (r * 2)) [
      | yes high ↦ record { either = inr (sym (closest_up a b high) ∙ add-one q, omega arith); even = λ e. absurd (omega arith) }
      | no not-high ↦ half (omega arith)
    ]
  ]
    where
      half : r * 2 ≡ b → Rounded (closest a b)
      half e =
          let is : closest a b ≡ q + q % 2 = sym (closest_even a b e) in
          record {
            either = elim (ℕ_discrete (q % 2) 0) [ yes z ↦ inl (omega arith, omega arith) | no z ↦ inr (omega arith, omega arith) ];
            even = λ h. omega arith;
          }

  nearest_natural : (c n : ℕ) → Rounded c → gap a (b * c) ≤ gap a (b * n)
  nearest_natural c n h = elim (dec_lt q n) [
    | yes over ↦ ⊎_elim
        (λ (e : (c ≡ q) × (r * 2 ≤ b)). rw e.0 (omega (arith, gap_down a b q r parts less, from a b q r parts less n over, less, e.1)))
        (λ (e : (c ≡ suc q) × (b ≤ r * 2)). rw e.0 (omega (arith, gap_up a b q r parts less, from a b q r parts less n over)))
        h.either
    | no under ↦ ⊎_elim
        (λ (e : (c ≡ q) × (r * 2 ≤ b)). rw e.0 (omega (arith, gap_down a b q r parts less, up_to a b q r parts less n (omega arith))))
        (λ (e : (c ≡ suc q) × (b ≤ r * 2)). rw e.0 (omega (arith, gap_up a b q r parts less, up_to a b q r parts less n (omega arith), less, e.1)))
        h.either
  ]

  -- another number that is as near: the nearest is the even one of the two
  tie-natural : (c n : ℕ) → Rounded c → n ≢ c → gap a (b * n) ≡ gap a (b * c) → (c % 2 ≡ 0) × (n % 2 ≡ 1)
  tie-natural c n h other e = ⊎_elim
      (λ (d : (c ≡ q) × (r * 2 ≤ b)).
      let as_near : gap a (b * n) ≡ r = e ∙ ap (λ (x : ℕ). gap a (b * x)) d.0 ∙ gap_down a b q r parts less in
      let next : n ≡ suc q = elim (dec_lt n q) [
        | yes l ↦ absurd (omega (arith, below a b q r parts less n l, less))
        | no l ↦ elim (dec_lt (suc q) n) [
          | yes g ↦ absurd (omega (arith, above a b q r parts less n g, less, d.1))
          | no g ↦ elim (ℕ_discrete n q) [ yes z ↦ absurd (other (z ∙ sym d.0)) | no z ↦ omega arith ]
        ]
      ] in
      let half : r * 2 ≡ b = omega (arith, from a b q r parts less n (omega arith), d.1, less) in
      let evenly = h.even half in
      (evenly, omega (arith, d.0)))
      (λ (d : (c ≡ suc q) × (b ≤ r * 2)).
      let as_near : gap a (b * n) ≡ b - r = e ∙ ap (λ (x : ℕ). gap a (b * x)) d.0 ∙ gap_up a b q r parts less in
      let next : n ≡ q = elim (dec_lt n q) [
        | yes l ↦ absurd (omega (arith, below a b q r parts less n l, less))
        | no l ↦ elim (dec_lt (suc q) n) [
          | yes g ↦ absurd (omega (arith, above a b q r parts less n g, less))
          | no g ↦ elim (ℕ_discrete n (suc q)) [ yes z ↦ absurd (other (z ∙ sym d.0)) | no z ↦ omega arith ]
        ]
      ] in
      let half : r * 2 ≡ b = omega (arith, up_to a b q r parts less n (omega arith), d.1, less) in
      let evenly = h.even half in
      (evenly, omega (arith, d.0)))
      h.either

-- ---- among all whole numbers

-- how far a / b is from k, b times over
unfoldable pub distance : ℕ → ℕ → ℤ → ℕ
distance a b k = nat_abs (pos a -ℤ pos b *ℤ k)

module _ (a b : ℕ) where
  distance_natural : (n : ℕ) → distance a b (pos n) ≡ gap a (b * n)
  unfolding distance
  distance_natural n = simp ints (omega arith)

  distance_negative : (n : ℕ) → distance a b (negsuc n) ≡ a + b * suc n
  unfolding distance
  distance_negative n = simp ints (omega arith)

module _ (a b : ℕ) (some : 0 < b) where
  nearest_to_zero : gap a (b * closest a b) ≤ a
  nearest_to_zero = omega (arith, nearest_natural a b some (closest a b) 0 (rounded a b some), mul-zero b)

  pub closest_nearest : (k : ℤ) → distance a b (pos (closest a b)) ≤ distance a b k
  closest_nearest (pos n) = rw (distance_natural a b (closest a b), distance_natural a b n) (nearest_natural a b some (closest a b) n (rounded a b some))
  closest_nearest (negsuc n) = rw (distance_natural a b (closest a b), distance_negative a b n) (omega (arith, nearest_to_zero))

  pub closest_tie : (k : ℤ) → k ≢ pos (closest a b) → distance a b k ≡ distance a b (pos (closest a b)) → (closest a b % 2 ≡ 0) × (nat_abs k % 2 ≡ 1)
  closest_tie (pos n) other e =
      tie-natural a b some (closest a b) n (rounded a b some) (λ z. other (ap pos z))
      (rw (distance_natural a b (closest a b), distance_natural a b n) at e)
  closest_tie (negsuc n) other e =
      let far : a + b * suc n ≡ gap a (b * closest a b) = rw (distance_natural a b (closest a b), distance_negative a b n) at e in
      absurd (omega (arith, nearest_to_zero, mul-suc b n))
