-- Laws of the interpolation, over any entries and any last degree.
-- Assumes nothing.
use mathlib.Core.Path.{◌≡◌, ◌∙◌, ap, ap₂, sym}
use Prim.Native.Nat.{ℕ, zero, suc, ◌+◌, ◌-◌, ◌*◌, ◌/◌, ◌%◌, ◌≤◌, ◌<◌}
use native.Mathlib.Nat.{mul-le-mul_left, add-zero}
use native.Mathlib.Decide.{dec_lt}
use native.Mathlib.Omega.{arith}
use borrow.Author.Tests.{lt-ltb, le-ltb}
use Rattle.water.specs.Interpolation.{between, interpolated}

-- a hundredth more, between two entries that lie c apart
next_hundredth : (f x y c : ℕ) → f < 100 → x + c ≤ y → (100 - f) * x + f * y + c ≤ (100 - (f + 1)) * x + (f + 1) * y
next_hundredth f x y c h g =
    let e : 100 - f ≡ 100 - (f + 1) + 1 = omega arith in
    rw e (omega arith)

-- between two entries that lie from m to n
pub mixed_lies :
    (f x y m n : ℕ) → f ≤ 100 → (m ≤ x) × (x ≤ n) → (m ≤ y) × (y ≤ n) →
    (100 * m ≤ (100 - f) * x + f * y) × ((100 - f) * x + f * y ≤ 100 * n)
mixed_lies f x y m n h p q =
    let k : (100 - f + f) * m ≡ 100 * m = ap (λ (l : ℕ). l * m) (omega arith) in
    let l : (100 - f + f) * n ≡ 100 * n = ap (λ (l : ℕ). l * n) (omega arith) in
    omega (
      arith,
      mul-le-mul_left (100 - f) p.0,
      mul-le-mul_left f q.0,
      mul-le-mul_left (100 - f) p.1,
      mul-le-mul_left f q.1,
    )

module _ (entry : ℕ → ℕ) (last : ℕ) where
  pub below_last : (t : ℕ) → t < 100 * last → interpolated entry last t ≡ between entry (t / 100) (t % 100)
  unfolding interpolated
  below_last t h = simp (interpolated, lt-ltb t (100 * last) h)

  pub from_last : (t : ℕ) → 100 * last ≤ t → interpolated entry last t ≡ 100 * entry last
  unfolding interpolated
  from_last t h = simp (interpolated, le-ltb t (100 * last) h)

  part_of_degree : (t d f : ℕ) → t ≡ 100 * d + f → d < last → f < 100 → interpolated entry last t ≡ between entry d f
  part_of_degree t d f e p q =
      let a : t / 100 ≡ d = omega arith in
      let b : t % 100 ≡ f = omega arith in
      below_last t (omega arith) ∙ ap₂ (between entry) a b

  whole_degree : (t d : ℕ) → t ≡ 100 * d → d ≤ last → interpolated entry last t ≡ 100 * entry d
  whole_degree t d e h =
      elim (dec_lt d last) [
        | yes l ↦ part_of_degree t d 0 (omega arith) l (omega arith) ∙ omega arith
        | no n ↦ from_last t (omega arith) ∙ ap (λ (k : ℕ). 100 * entry k) (omega arith)
      ]

  -- from a degree up to the next one, which is included
  up_to_next : (t d f : ℕ) → t ≡ 100 * d + f → d < last → f ≤ 100 → interpolated entry last t ≡ between entry d f
  up_to_next t d f e p q =
      elim (dec_lt f 100) [
        | yes l ↦ part_of_degree t d f e p l
        | no n ↦
            let c : f ≡ 100 = omega arith in
            whole_degree t (d + 1) (omega arith) (omega arith) ∙ rw c (omega arith)
      ]

  -- where each entry lies from m to n, so does each value between them
  pub lies :
      (m n : ℕ) → ((d : ℕ) → d ≤ last → (m ≤ entry d) × (entry d ≤ n)) →
      (t : ℕ) → (100 * m ≤ interpolated entry last t) × (interpolated entry last t ≤ 100 * n)
  lies m n h t =
      elim (dec_lt t (100 * last)) [
        | yes l ↦
            let d = t / 100 in
            rw (below_last t l)
            (mixed_lies (t % 100) (entry d) (entry (d + 1)) m n (omega arith) (h d (omega arith)) (h (d + 1) (omega arith)))
        | no k ↦ rw (from_last t (omega arith)) (omega (arith, h last (omega arith)))
      ]

  -- where each entry is c more than the one before it, each hundredth of a degree is too
  module _ (c : ℕ) (grows : (d : ℕ) → d < last → entry d + c ≤ entry (d + 1)) where
    hundredth : (t : ℕ) → t < 100 * last → interpolated entry last t + c ≤ interpolated entry last (t + 1)
    hundredth t h =
        let d = t / 100 in
        let f = t % 100 in
        omega (
          arith,
          up_to_next t d f (omega arith) (omega arith) (omega arith),
          up_to_next (t + 1) d (f + 1) (omega arith) (omega arith) (omega arith),
          next_hundredth f (entry d) (entry (d + 1)) c (omega arith) (grows d (omega arith)),
        )

    hundredths : (b n : ℕ) → b + n ≤ 100 * last → interpolated entry last b + c * n ≤ interpolated entry last (b + n)
    hundredths b zero h = rw add-zero (omega arith)
    hundredths b (suc n) h =
        let e : b + suc n ≡ b + n + 1 = omega arith in
        rw e (omega (arith, hundredths b n (omega arith), hundredth (b + n) (omega arith)))

    pub apart : (a b : ℕ) → b ≤ a → a ≤ 100 * last → interpolated entry last b + c * (a - b) ≤ interpolated entry last a
    apart a b p q =
        let e : b + (a - b) ≡ a = omega arith in
        rw e at (hundredths b (a - b) (omega arith))

-- entries that are the same up to the last make the same values
pub alike :
    (e g : ℕ → ℕ) (last : ℕ) → ((d : ℕ) → d ≤ last → e d ≡ g d) →
    (t : ℕ) → interpolated e last t ≡ interpolated g last t
alike e g last h t =
    elim (dec_lt t (100 * last)) [
      | yes l ↦
          let d = t / 100 in
          below_last e last t l
          ∙ ap₂ (λ (x y : ℕ). (100 - t % 100) * x + t % 100 * y) (h d (omega arith)) (h (d + 1) (omega arith))
          ∙ sym (below_last g last t l)
      | no n ↦
          from_last e last t (omega arith)
          ∙ ap (λ (x : ℕ). 100 * x) (h last (omega arith))
          ∙ sym (from_last g last t (omega arith))
    ]
