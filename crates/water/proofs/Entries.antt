-- The numbers in a table's two arrays are those that the definition gives by IAPWS-IF97: one test for each table, computed over all degrees, and the
-- law that gives it at one of them. Stated for any table and any two lists, and used for the tables of both pressures.
-- Assumes nothing.
use mathlib.Core.Path.{◌≡◌, refl}
use borrow.Author.Tests.{le-leb, lt-leb}
use mathlib.Core.Bool.{Bool, ◌&&◌}
use mathlib.Core.List.{List}
use Prim.Native.Nat.{ℕ, suc, ◌-◌, ◌≤◌, ◌<◌}
use native.Mathlib.Omega.{arith}
use lib.Dec.{T, eqb, eqb→eq}
use lib.ListN.{length, get_or}
use mir.Facts.{and_yes}
use Rattle.quantity.proofs.Span.{span, below, join}
use Rattle.water.specs.If97.{enthalpy, volume}
use Rattle.std.specs.Prelude.{Some, None, Result, Ok, Err}
use Rattle.std.specs.Result.{result_ok}
use Rattle.quantity.specs.declared.refusal.Refusal.{Refusal}
use Rattle.water.specs.Pressure.{bar_of, last_of, pressure_of}
use Rattle.water.specs.Table.{Table, enthalpy_entry, volume_entry, table_of, entry_of}
use Rattle.water.specs.Interpolation.{interpolated}
use Rattle.water.specs.Inside.Columns.{Holds}
use Rattle.water.proofs.Interpolated.{alike}
use Rattle.water.specs.declared.pressure.Pressure.{Pressure}
use Rattle.water.specs.declared.pressure.Pressure.TheVariants.{Bar6, Bar16}
use Rattle.water.specs.declared.tables.TheConstants.{ENTHALPY_6, VOLUME_6, ENTHALPY_16, VOLUME_16}

-- two lists are a table's columns
pub record Right (w : Table) (hs vs : List ℕ) : Type 0 where
  pub enthalpy : Holds w.specific_enthalpy w.last hs
  pub volume : Holds w.specific_volume w.last vs

-- the test: both entries of a degree are the table's
unfoldable pub is_right : Table → List ℕ → List ℕ → ℕ → Bool
is_right w hs vs d = eqb (get_or hs d 0) (w.specific_enthalpy d) && eqb (get_or vs d 0) (w.specific_volume d)

pub right : (w : Table) (hs vs : List ℕ) → length hs ≡ suc w.last → length vs ≡ suc w.last → T (span (is_right w hs vs) 0 (suc w.last)) → Right w hs vs
unfolding is_right
right w hs vs l m t = record {
  enthalpy = record { long = l; right = λ d k. eqb→eq _ _ (both d k).0 };
  volume = record { long = m; right = λ d k. eqb→eq _ _ (both d k).1 };
}
  where
    both : (d : ℕ) → d ≤ w.last → T (eqb (get_or hs d 0) (w.specific_enthalpy d)) × T (eqb (get_or vs d 0) (w.specific_volume d))
    both d k =
        and_yes (eqb (get_or hs d 0) (w.specific_enthalpy d)) (eqb (get_or vs d 0) (w.specific_volume d))
        (below (is_right w hs vs) (suc w.last) t d (omega arith))

-- for the arrays of src/tables.rt the test is computed in two parts, since one declaration may take 50 million steps
cooler_6 : T (span (is_right (table_of Bar6) ENTHALPY_6 VOLUME_6) 0 90)
unfolding is_right enthalpy_entry volume_entry enthalpy volume bar_of last_of
cooler_6 = tt

warmer_6 : T (span (is_right (table_of Bar6) ENTHALPY_6 VOLUME_6) 90 61)
unfolding is_right enthalpy_entry volume_entry enthalpy volume bar_of last_of
warmer_6 = tt

cooler_16 : T (span (is_right (table_of Bar16) ENTHALPY_16 VOLUME_16) 0 90)
unfolding is_right enthalpy_entry volume_entry enthalpy volume bar_of last_of
cooler_16 = tt

warmer_16 : T (span (is_right (table_of Bar16) ENTHALPY_16 VOLUME_16) 90 91)
unfolding is_right enthalpy_entry volume_entry enthalpy volume bar_of last_of
warmer_16 = tt

pub right_6 : Right (table_of Bar6) ENTHALPY_6 VOLUME_6
unfolding last_of
right_6 = right (table_of Bar6) ENTHALPY_6 VOLUME_6 refl refl (join (is_right (table_of Bar6) ENTHALPY_6 VOLUME_6) 90 61 0 cooler_6 warmer_6)

pub right_16 : Right (table_of Bar16) ENTHALPY_16 VOLUME_16
unfolding last_of
right_16 = right (table_of Bar16) ENTHALPY_16 VOLUME_16 refl refl (join (is_right (table_of Bar16) ENTHALPY_16 VOLUME_16) 90 91 0 cooler_16 warmer_16)

-- where a column is right, so is what lies between its numbers
pub held_between : (entry : ℕ → ℕ) (last : ℕ) (xs : List ℕ) → Holds entry last xs → (t : ℕ) →
    interpolated (λ d. get_or xs d 0) (length xs - 1) t ≡ interpolated entry last t
held_between entry last xs h t =
    let e : length xs - 1 ≡ last = omega (arith, h.long) in
    rw e (alike (λ d. get_or xs d 0) entry last h.right t)

-- the entry that the code answers of a pressure that was named,
module _ (d field : ℕ) (p : Pressure) (named : result_ok (pressure_of field) ≡ Some p) where
  is_named : pressure_of field ≡ Ok p
  is_named = by (pressure_of field) named
    where
      by : (r : Result Pressure Refusal) → result_ok r ≡ Some p → r ≡ Ok p
      by (Ok q) e = cc
      by (Err r) e = absurd cc

  pub entry_there :
      (h v : ℕ) → d ≤ last_of p → h ≡ (table_of p).specific_enthalpy d → v ≡ (table_of p).specific_volume d →
      Some (record { enthalpy = h; volume = v }) ≡ entry_of d field
  unfolding entry_of
  entry_there h v l e g = rw (is_named, le-leb d (last_of p) l, e, g) refl

  -- none past its last degree,
  pub none_past : last_of p < d → None ≡ entry_of d field
  unfolding entry_of
  none_past l = rw (is_named, lt-leb d (last_of p) l) refl

-- and none where no pressure was named
pub none_named : (d field : ℕ) → result_ok (pressure_of field) ≡ None → None ≡ entry_of d field
unfolding entry_of
none_named d field e = by (pressure_of field) refl e
  where
    by : (r : Result Pressure Refusal) → pressure_of field ≡ r → result_ok r ≡ None → None ≡ entry_of d field
    by (Ok p) g e = absurd cc
    by (Err r) g e = rw g refl
