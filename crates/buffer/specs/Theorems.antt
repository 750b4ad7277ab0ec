-- What is proved of the conditions on a text that is to be put into a buffer. The statement has the name of the clause that promises it.
use Rattle.std.specs.Prelude.{◌≡◌, ◌↔◌, ℕ, ◌+◌, ◌≤◌, Result, Ok}
use Rattle.quantity.specs.declared.refusal.Refusal.{Refusal}

-- From the position at on, needed bytes end at next, and that is not beyond a buffer of size bytes.
pub record Fits (size at needed next : ℕ) : Type 0 where
  pub ends : next ≡ at + needed
  pub room : next ≤ size

-- Nothing is refused exactly where the text itself is not and it ends within the buffer.
abbrev pub FitsExactly : ℕ → ℕ → Result Unit Refusal → ℕ → Result Unit Refusal → Type 0
FitsExactly size at own needed answer = (answer ≡ Ok tt) ↔ ((own ≡ Ok tt) × (at + needed ≤ size))
