-- No number of a limit passes 64 bits, at the ends of the ranges and for figures of up to 100 percent.
-- Assumes nothing.
use Prim.Native.Nat.{ℕ, ◌+◌, ◌*◌, ◌^◌, ◌≤◌}
use native.Mathlib.Nat.{mul-le-mul}
use native.Mathlib.Omega.{arith}
use Rattle.quantity.specs.Units.{largest_kelvins}
use Rattle.verdict.specs.Rows.{largest_flow}

-- the products of a complete instrument's limit: D, Δmin, q, and the flow sensor's part
pub record Room (d m q flow : ℕ) : Type 0 where
  pub over_flow : (d + 200 * m + (d + 600 * m)) * (100 * q) ≤ 38400 * 10 ^ 11
  pub over_difference : flow * (2 * d) ≤ 36000 * 10 ^ 13
  pub lower : 2 * d * (100 * q) ≤ 36000 * 10 ^ 11

pub room : (d m q flow : ℕ) → d ≤ 100 * largest_kelvins → m ≤ 3 → q ≤ largest_flow → flow ≤ 10 ^ 13 → Room d m q flow
room d m q flow dh mh qh fh =
    let sum : d + 200 * m + (d + 600 * m) ≤ 38400 = omega arith in
    let twice : 2 * d ≤ 36000 = omega arith in
    let hundred : 100 * q ≤ 10 ^ 11 = omega arith in
    record {
      over_flow = mul-le-mul sum hundred;
      over_difference = omega (arith, mul-le-mul fh twice);
      lower = mul-le-mul twice hundred;
    }
