-- The bounds of a water table that the laws of the register rest on, by tests over its entries. Stated for any table and any two lists that are right,
-- and used for the tables of both pressures.
-- Assumes nothing.
use mathlib.Core.Bool.{Bool}
use mathlib.Core.List.{List}
use Prim.Native.Nat.{ℕ, suc, ◌+◌, ◌≤◌, ◌<◌}
use native.Mathlib.Omega.{arith}
use lib.Dec.{T, leb, leb→le}
use lib.ListN.{get_or}
use Rattle.quantity.proofs.Span.{span, below}
use Rattle.water.specs.Pressure.{last_of}
use Rattle.water.specs.Table.{Table, table_of}
use Rattle.water.specs.Theorems.{TableBounds, Bounded}
use Rattle.water.specs.declared.pressure.Pressure.TheVariants.{Bar6, Bar16}
use Rattle.water.specs.declared.tables.TheConstants.{ENTHALPY_6, VOLUME_6, ENTHALPY_16, VOLUME_16}
use Rattle.water.proofs.Entries.{Right, right_6, right_16}

-- the test that f is at most g at the first n numbers
abbrev pub in_order : (ℕ → ℕ) → (ℕ → ℕ) → ℕ → Bool
in_order f g n = span (λ d. leb (f d) (g d)) 0 n

in_order_lem : (f g : ℕ → ℕ) (n : ℕ) → T (in_order f g n) → (d : ℕ) → d < n → f d ≤ g d
in_order_lem f g n t d l = leb→le (f d) (g d) (below (λ d. leb (f d) (g d)) n t d l)

abbrev pub at : List ℕ → ℕ → ℕ
at xs d = get_or xs d 0

-- a table whose entries pass the four tests is bounded
of_tests :
    (w : Table) (hs vs : List ℕ) → Right w hs vs →
    T (in_order (λ d. at hs d + 4100000) (λ d. at hs (d + 1)) w.last) →
    T (in_order (at hs) (λ d. 800000000) (suc w.last)) →
    T (in_order (λ d. 900000000) (at vs) (suc w.last)) →
    T (in_order (at vs) (λ d. 1130000000) (suc w.last)) →
    TableBounds w
of_tests w hs vs r s t k m = record {
  grows = λ d l.
      omega (
        arith,
        r.enthalpy.right d (omega arith),
        r.enthalpy.right (d + 1) (omega arith),
        in_order_lem (λ d. at hs d + 4100000) (λ d. at hs (d + 1)) w.last s d l,
      );
  most_enthalpy = λ d l. omega (arith, r.enthalpy.right d l, in_order_lem (at hs) (λ d. 800000000) (suc w.last) t d (omega arith));
  least_volume = λ d l. omega (arith, r.volume.right d l, in_order_lem (λ d. 900000000) (at vs) (suc w.last) k d (omega arith));
  most_volume = λ d l. omega (arith, r.volume.right d l, in_order_lem (at vs) (λ d. 1130000000) (suc w.last) m d (omega arith));
}

pub bounded : Bounded
unfolding last_of
bounded Bar6 = of_tests (table_of Bar6) ENTHALPY_6 VOLUME_6 right_6 tt tt tt tt
bounded Bar16 = of_tests (table_of Bar16) ENTHALPY_16 VOLUME_16 right_16 tt tt tt tt
