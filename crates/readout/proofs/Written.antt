-- What is read of the bytes that are written, and which bytes are read.
-- Assumes nothing.
use Rattle.std.proofs.Common.{Result, Ok, Err, Option, Some, None}
use mathlib.Core.Path.{◌≡◌, refl, sym, ap, ◌∙◌, subst}
use mathlib.Core.Bool.{Bool, true, false, not, ◌||◌, or-true, cond}
use mathlib.Core.List.{List, [], ◌∷◌, ◌++◌}
use Prim.Native.Nat.{ℕ, ◌-◌, ◌*◌, ◌/◌, ◌≤◌}
use native.Mathlib.Omega.{arith}
use lib.Dec.{eqb, ltb}
use lib.ListN.{length, take, drop, get_or, length-take, length-drop}
use lib.Seq.{length-take-le}
use borrow.Author.Tests.{ltb-false, le-ltb, eqb-true}
use Rattle.std.specs.Prelude.{◌↔◌}
use Rattle.quantity.specs.Refusals.{first_of, refusal_number, first_number, NoneApplies}
use Rattle.quantity.specs.declared.refusal.Refusal.{Refusal}
use Rattle.quantity.specs.declared.refusal.Refusal.TheVariants as R
use Rattle.quantity.proofs.Conditions.{neither, both}
use Rattle.quantity.proofs.Rows.{answered, none_applies, number_of_rows}
use Rattle.buffer.proofs.Rows.{put_exactly_where, can_be_put_exactly, put_number}
use Rattle.readout.specs.Packed.{digits_in, some_above_nine, packed, unpacked}
use Rattle.readout.specs.Records.{eight_digits, energy_in_kwh, volume_in_litres, number_length, record_of, readout_of, readout_length, whole_of, largest_number}
use Rattle.readout.specs.Writing.{own_rows, write_rows, written_of}
use Rattle.readout.specs.Reading.{stands, has_shape, energy_bytes, volume_bytes, read_rows, read_of, numbers_in}
use Rattle.readout.specs.Theorems.{AtMostEightDigits, WrittenExactly, WrittenOf, AcceptedExactly, SameBytes}
use Rattle.readout.specs.declared.records.WholeUnits.{WholeUnits}
use Rattle.readout.proofs.PackedDecimal.{unpacked_packed, packed_decimal_digits, packed_unpacked, unpacked_below, packed_length}
use Rattle.readout.proofs.Bytes.{readout_length_lem}

-- ---- the writer

-- no row of its own applies exactly where both numbers have eight digits at most
pub own_none : (r : WholeUnits) → NoneApplies (own_rows r) ↔ AtMostEightDigits r
unfolding own_rows
own_none r = (
  λ n.
      let p = neither (ltb largest_number r.kilowatt_hours) (ltb largest_number r.litres) n.0 in
      record { energy = ltb-false largest_number r.kilowatt_hours p.0; volume = ltb-false largest_number r.litres p.1 },
  λ h. (simp (le-ltb largest_number r.kilowatt_hours h.energy, le-ltb largest_number r.litres h.volume), tt),
)

pub written_exactly : (size at heat volume : ℕ) (x : Result ℕ Refusal) → x ≡ written_of size at heat volume → WrittenExactly size at heat volume x
written_exactly size at heat volume =
    let w : WholeUnits = whole_of heat volume in
    put_exactly_where size at (own_rows w) (readout_of w) readout_length (AtMostEightDigits w) (readout_length_lem w) (own_none w)

pub write_number : (size at heat volume : ℕ) (x : Result ℕ Refusal) → x ≡ written_of size at heat volume → refusal_number x ≡ first_number (write_rows size at heat volume)
write_number size at heat volume = put_number size at (own_rows (whole_of heat volume)) (readout_of (whole_of heat volume))

-- ---- the reader

-- what the shape says: how many bytes there are, and what stands at four places
record Shaped (bs : List ℕ) : Type 0 where
  pub count : length bs ≡ readout_length
  pub energy_dif : get_or bs 0 0 ≡ eight_digits
  pub energy_vif : get_or bs 1 0 ≡ energy_in_kwh
  pub volume_dif : get_or bs 6 0 ≡ eight_digits
  pub volume_vif : get_or bs 7 0 ≡ volume_in_litres

shaped : (bs : List ℕ) → has_shape bs ≡ true → Shaped bs
unfolding has_shape
shaped bs h =
    let p = both (eqb (length bs) readout_length) _ h in
    let q = both (stands bs 0 eight_digits) _ p.1 in
    let r = both (stands bs 1 energy_in_kwh) _ q.1 in
    let t = both (stands bs 6 eight_digits) (stands bs 7 volume_in_litres) r.1 in
    record {
      count = eqb-true (length bs) readout_length p.0;
      energy_dif = eqb-true (get_or bs 0 0) eight_digits q.0;
      energy_vif = eqb-true (get_or bs 1 0) energy_in_kwh r.0;
      volume_dif = eqb-true (get_or bs 6 0) eight_digits t.0;
      volume_vif = eqb-true (get_or bs 7 0) volume_in_litres t.1;
    }

pub twelve : (bs : List ℕ) → has_shape bs ≡ true → length bs ≡ readout_length
twelve bs h = (shaped bs h).count

-- such bytes are the two records' fields with four bytes behind each
twelve_bytes : (bs : List ℕ) → Shaped bs → bs ≡ (eight_digits ∷ energy_in_kwh ∷ energy_bytes bs) ++ (eight_digits ∷ volume_in_litres ∷ volume_bytes bs)
twelve_bytes (b0 ∷ b1 ∷ b2 ∷ b3 ∷ b4 ∷ b5 ∷ b6 ∷ b7 ∷ b8 ∷ b9 ∷ b10 ∷ b11 ∷ []) s = rw (s.energy_dif, s.energy_vif, s.volume_dif, s.volume_vif) refl
twelve_bytes bs s = absurd (omega (arith, s.count))

-- what the rows make of bytes
pub misshapen : (bs : List ℕ) → has_shape bs ≡ false → Err R.ReadoutShape ≡ read_of bs
unfolding read_of read_rows first_of
misshapen bs h = rw h refl

pub high_digit : (bs : List ℕ) → has_shape bs ≡ true → (some_above_nine (digits_in (energy_bytes bs)) || some_above_nine (digits_in (volume_bytes bs))) ≡ true →
    Err R.ReadoutDigit ≡ read_of bs
unfolding read_of read_rows first_of
high_digit bs h d = rw (h, d) refl

pub accepted : (bs : List ℕ) → has_shape bs ≡ true → some_above_nine (digits_in (energy_bytes bs)) ≡ false → some_above_nine (digits_in (volume_bytes bs)) ≡ false →
    Ok (numbers_in bs) ≡ read_of bs
unfolding read_of read_rows first_of
accepted bs h d e = rw (h, d, e) refl

-- By what is read of each number's bytes, which is none where a digit is above nine. The volume's are all that follow its record's fields.
none_above : (b : Bool) (v : ℕ) → None ≡ cond b None (Some v) → b ≡ true
none_above true v e = refl
none_above false v e = absurd cc

none_not_above : (b : Bool) (n v : ℕ) → Some n ≡ cond b None (Some v) → (b ≡ false) × (n ≡ v)
none_not_above true n v e = absurd cc
none_not_above false n v e = (refl, cc)

abbrev number_read : List ℕ → Option ℕ
number_read bs = cond (some_above_nine (digits_in bs)) None (Some (unpacked bs))

module _ (bs : List ℕ) (h : has_shape bs ≡ true) where
  last_four : take (length bs - 8) (drop 8 bs) ≡ volume_bytes bs
  last_four = let n : length bs - 8 ≡ number_length = omega (arith, twelve bs h) in ap (λ (k : ℕ). take k (drop 8 bs)) n

  pub few_left : length (take (length bs - 8) (drop 8 bs)) ≤ 9
  few_left = omega (arith, twelve bs h, length-take (length bs - 8) (drop 8 bs))

  pub energy_refused : (x : Option ℕ) → x ≡ number_read (energy_bytes bs) → x ≡ None → Err R.ReadoutDigit ≡ read_of bs
  energy_refused x e f =
      high_digit bs h (rw (none_above (some_above_nine (digits_in (energy_bytes bs))) (unpacked (energy_bytes bs)) (sym f ∙ e)) refl)

  pub volume_refused : (y : Option ℕ) → y ≡ number_read (take (length bs - 8) (drop 8 bs)) → y ≡ None → Err R.ReadoutDigit ≡ read_of bs
  volume_refused y v f =
      high_digit bs h (rw (none_above (some_above_nine (digits_in (volume_bytes bs))) (unpacked (volume_bytes bs)) (sym f ∙ v ∙ ap number_read last_four)) (or-true (some_above_nine (digits_in (energy_bytes bs)))))

  pub both_read : (x y : Option ℕ) → x ≡ number_read (energy_bytes bs) → y ≡ number_read (take (length bs - 8) (drop 8 bs)) → (k l : ℕ) → x ≡ Some k → y ≡ Some l →
      Ok (record { kilowatt_hours = k; litres = l }) ≡ read_of bs
  both_read x y e v k l f g =
      let p = none_not_above (some_above_nine (digits_in (energy_bytes bs))) k (unpacked (energy_bytes bs)) (sym f ∙ e) in
      let q = none_not_above (some_above_nine (digits_in (volume_bytes bs))) l (unpacked (volume_bytes bs)) (sym g ∙ v ∙ ap number_read last_four) in
      rw (p.1, q.1) (accepted bs h p.0 q.0)

pub read_number : (bs : List ℕ) (x : Result WholeUnits Refusal) → x ≡ read_of bs → refusal_number x ≡ first_number (read_rows bs)
unfolding read_of
read_number bs x e = ap refusal_number e ∙ number_of_rows (read_rows bs) (numbers_in bs)

-- what no row refuses
unrefused : (bs : List ℕ) (r : WholeUnits) → read_of bs ≡ Ok r →
    (has_shape bs ≡ true) × (some_above_nine (digits_in (energy_bytes bs)) ≡ false) × (some_above_nine (digits_in (volume_bytes bs)) ≡ false) × (numbers_in bs ≡ r)
unfolding read_of read_rows
unrefused bs r e =
    let a = answered (first_of (read_rows bs)) (numbers_in bs) r e in
    let n = none_applies (read_rows bs) a.0 in
    let d = neither (some_above_nine (digits_in (energy_bytes bs))) (some_above_nine (digits_in (volume_bytes bs))) n.1.0 in
    (not_false (has_shape bs) n.0, d.0, d.1, a.1)
  where
    not_false : (b : Bool) → not b ≡ false → b ≡ true
    not_false true h = refl
    not_false false h = absurd cc

-- ---- what is read is what was written

-- four bytes behind the fields of each record: the shape, and the bytes of each number
framed : (es vs : List ℕ) → length es ≡ number_length → length vs ≡ number_length →
    (has_shape ((eight_digits ∷ energy_in_kwh ∷ es) ++ (eight_digits ∷ volume_in_litres ∷ vs)) ≡ true) ×
    (energy_bytes ((eight_digits ∷ energy_in_kwh ∷ es) ++ (eight_digits ∷ volume_in_litres ∷ vs)) ≡ es) ×
    (volume_bytes ((eight_digits ∷ energy_in_kwh ∷ es) ++ (eight_digits ∷ volume_in_litres ∷ vs)) ≡ vs)
unfolding has_shape
framed (e0 ∷ e1 ∷ e2 ∷ e3 ∷ []) (v0 ∷ v1 ∷ v2 ∷ v3 ∷ []) m n = (refl, refl, refl)
framed es vs m n = absurd (omega (arith, m, n))

-- a readout's bytes are read as its numbers
reads_readout : (r : WholeUnits) → AtMostEightDigits r → read_of (readout_of r) ≡ Ok r
unfolding readout_of record_of
reads_readout r h =
    let k : ℕ = r.kilowatt_hours in
    let l : ℕ = r.litres in
    let f = framed (packed number_length k) (packed number_length l) (packed_length number_length k) (packed_length number_length l) in
    let energy : unpacked (energy_bytes (readout_of r)) ≡ k = rw f.1 (unpacked_packed number_length k (omega (arith, h.energy))) in
    let volume : unpacked (volume_bytes (readout_of r)) ≡ l = rw f.2 (unpacked_packed number_length l (omega (arith, h.volume))) in
    sym (accepted (readout_of r) f.0 (rw f.1 (packed_decimal_digits number_length k)) (rw f.2 (packed_decimal_digits number_length l)))
    ∙ ap (λ (n : ℕ). Ok (record { kilowatt_hours = n; litres = unpacked (volume_bytes (readout_of r)) })) energy
    ∙ ap (λ (n : ℕ). Ok (record { kilowatt_hours = k; litres = n })) volume

-- bytes that are read are those of the numbers read, which have eight digits at most
readout_read : (bs : List ℕ) (r : WholeUnits) → read_of bs ≡ Ok r → AtMostEightDigits r × (bs ≡ readout_of r)
unfolding readout_of record_of
readout_read bs r e =
    let u = unrefused bs r e in
    let s = shaped bs u.0 in
    let energy_four : length (energy_bytes bs) ≡ number_length = length-take-le number_length (drop 2 bs) (omega (arith, s.count, length-drop 2 bs)) in
    let volume_four : length (volume_bytes bs) ≡ number_length = length-take-le number_length (drop 8 bs) (omega (arith, s.count, length-drop 8 bs)) in
    let energy_below : unpacked (energy_bytes bs) ≤ largest_number = omega (arith, rw energy_four at (unpacked_below (energy_bytes bs) u.1)) in
    let volume_below : unpacked (volume_bytes bs) ≤ largest_number = omega (arith, rw volume_four at (unpacked_below (volume_bytes bs) u.2)) in
    let energy_is = packed_unpacked number_length (energy_bytes bs) energy_four u.1 in
    let volume_is = packed_unpacked number_length (volume_bytes bs) volume_four u.2 in
    let same : bs ≡ readout_of (numbers_in bs) =
    twelve_bytes bs s
    ∙ ap (λ (es : List ℕ). (eight_digits ∷ energy_in_kwh ∷ es) ++ (eight_digits ∷ volume_in_litres ∷ volume_bytes bs)) energy_is
    ∙ ap (λ (vs : List ℕ). (eight_digits ∷ energy_in_kwh ∷ packed number_length (unpacked (energy_bytes bs))) ++ (eight_digits ∷ volume_in_litres ∷ vs)) volume_is in
    subst (λ (q : WholeUnits). AtMostEightDigits q × (bs ≡ readout_of q)) u.3 (record { energy = energy_below; volume = volume_below }, same)

pub same_bytes : SameBytes
same_bytes bs cs r d e = (readout_read bs r d).1 ∙ sym (readout_read cs r e).1

-- whole units, as millijoules and millilitres again
whole_again : (r : WholeUnits) → r ≡ whole_of (r.kilowatt_hours * 3600000000) (r.litres * 1000)
unfolding whole_of
whole_again r =
    let energy : r.kilowatt_hours * 3600000000 / 3600000000 ≡ r.kilowatt_hours = omega arith in
    let volume : r.litres * 1000 / 1000 ≡ r.litres = omega arith in
    sym (
    ap (λ (n : ℕ). record { kilowatt_hours = n; litres = r.litres * 1000 / 1000 }) energy
    ∙ ap (λ (n : ℕ). record { kilowatt_hours = r.kilowatt_hours; litres = n }) volume
    )

pub accepted_exactly : (bs : List ℕ) (x : Result WholeUnits Refusal) → x ≡ read_of bs → AcceptedExactly bs x
accepted_exactly bs x e w = (forth, back)
  where
    forth : x ≡ Ok w → WrittenOf bs w
    forth f =
        let p = readout_read bs w (sym e ∙ f) in
        let again = whole_again w in
        record {
          heat = w.kilowatt_hours * 3600000000;
          volume = w.litres * 1000;
          heat_fits = omega (arith, p.0.energy);
          volume_fits = omega (arith, p.0.volume);
          can = rw (← again) ((can_be_put_exactly (own_rows w) (readout_of w)).1 ((own_none w).1 p.0));
          bytes = rw (← again) p.1;
          whole = again;
        }

    back : WrittenOf bs w → x ≡ Ok w
    back q =
        let v : WholeUnits = whole_of q.heat q.volume in
        e
        ∙ ap read_of q.bytes
        ∙ reads_readout v ((own_none v).0 ((can_be_put_exactly (own_rows v) (readout_of v)).0 q.can))
        ∙ ap (λ (u : WholeUnits). Ok u) (sym q.whole)
