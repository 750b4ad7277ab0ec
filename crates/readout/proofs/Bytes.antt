-- The bytes of a readout: how many they are, and how records and their numbers are put into a buffer.
-- Assumes nothing.
use mathlib.Core.Path.{◌≡◌, refl, ap, ◌∙◌}
use mathlib.Core.List.{List, [], ◌∷◌, ◌++◌}
use Prim.Native.Nat.{ℕ, ◌+◌, ◌-◌, ◌≤◌}
use native.Mathlib.Omega.{arith}
use lib.ListN.{length, take, drop, set, length-append}
use lib.Seq.{length-take-le}
use Rattle.buffer.specs.Front.{put_front}
use Rattle.buffer.proofs.Puts.{Wrote, wrote_room, wrote_more}
use Rattle.readout.specs.Packed.{packed}
use Rattle.readout.specs.Records.{eight_digits, energy_in_kwh, volume_in_litres, record_of, readout_of, readout_length, number_length}
use Rattle.readout.specs.declared.records.WholeUnits.{WholeUnits}
use Rattle.readout.proofs.PackedDecimal.{packed_length}

-- a record has six bytes, and a readout twelve
pub record_length : (vif x : ℕ) → length (record_of vif x) ≡ 6
unfolding record_of
record_length vif x = omega (arith, packed_length number_length x)

pub readout_length_lem : (r : WholeUnits) → length (readout_of r) ≡ readout_length
unfolding readout_of
readout_length_lem r =
    length-append (record_of energy_in_kwh r.kilowatt_hours) (record_of volume_in_litres r.litres)
    ∙ omega (arith, record_length energy_in_kwh r.kilowatt_hours, record_length volume_in_litres r.litres)

-- two stores, and a number in the four bytes behind them that were lent
pub record_put : (part ys : List ℕ) (vif x : ℕ) → 6 ≤ length part →
    ys ≡ packed (length (take 4 (drop 2 (set (set part 0 eight_digits) 1 vif)))) x →
    take 2 (set (set part 0 eight_digits) 1 vif) ++ (ys ++ drop 4 (drop 2 (set (set part 0 eight_digits) 1 vif))) ≡ put_front part (record_of vif x)
unfolding record_of
record_put [] ys vif x h e = absurd (omega arith)
record_put (p ∷ []) ys vif x h e = absurd (omega arith)
record_put (p ∷ q ∷ ps) ys vif x h e =
    let four : length (take 4 ps) ≡ number_length = length-take-le 4 ps (omega arith) in
    let ys_is : ys ≡ packed number_length x = e ∙ ap (λ (n : ℕ). packed n x) four in
    ap (λ (l : List ℕ). eight_digits ∷ vif ∷ l) (rw (ys_is, packed_length) refl)

-- one record behind the other
module _ (part : List ℕ) (r : WholeUnits) (room : readout_length ≤ length part) (ys : List ℕ) (k : ℕ) (w : Wrote part (record_of energy_in_kwh r.kilowatt_hours) ys k) where
  fits : length (record_of energy_in_kwh r.kilowatt_hours) + length (record_of volume_in_litres r.litres) ≤ length part
  fits = omega (arith, record_length energy_in_kwh r.kilowatt_hours, record_length volume_in_litres r.litres)

  pub second_room : length (record_of volume_in_litres r.litres) ≤ length (take (length ys - k) (drop k ys))
  second_room = wrote_room part (record_of energy_in_kwh r.kilowatt_hours) ys k w (record_of volume_in_litres r.litres) fits

  pub readout_put : (zs : List ℕ) (n : ℕ) → n ≡ length (record_of volume_in_litres r.litres) →
      zs ≡ put_front (take (length ys - k) (drop k ys)) (record_of volume_in_litres r.litres) →
      Wrote part (readout_of r) (take k ys ++ (zs ++ drop (length ys - k) (drop k ys))) (k + n)
  unfolding readout_of
  readout_put zs n e g = wrote_more part (record_of energy_in_kwh r.kilowatt_hours) ys k w (record_of volume_in_litres r.litres) fits zs n e g
