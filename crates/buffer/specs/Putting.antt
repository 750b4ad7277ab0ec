-- A text that is put at a position of a lent buffer, counted from 0: what refuses it, what is answered, and what each byte is afterwards. The lines of a
-- file and readouts are such texts. What refuses the text itself, wherever it is to be put, are its own rows.
use Rattle.std.specs.Prelude.{◌≡◌, ℕ, ◌+◌, ◌-◌, List, [], ◌∷◌, ◌++◌, true, ltb, length, take, drop, Result, Ok, Err}
use Rattle.std.specs.Result.{result_and}
use Rattle.quantity.specs.Refusals.{row, first_of}
use Rattle.quantity.specs.declared.refusal.Row.{Row}
use Rattle.quantity.specs.declared.refusal.Refusal.{Refusal}
use Rattle.quantity.specs.declared.refusal.Refusal.TheVariants as R

-- All conditions in order, for a buffer of size bytes and a text that needs so many. 67: the position is beyond the buffer, which its very end is
-- not. Then the text's own. 66: the text needs more bytes than are left from the position on. Where 67 holds the subtraction stops at 0, but then 67
-- has decided.
unfoldable pub put_rows : ℕ → ℕ → List Row → ℕ → List Row
put_rows size at own needed = row R.PlaceBeyond (ltb size at) ∷ (own ++ (row R.Room (ltb (size - at) needed) ∷ []))

-- An answer as rows: none where nothing is refused, and otherwise one whose condition holds.
unfoldable pub as_rows : Result Unit Refusal → List Row
as_rows (Ok u) = []
as_rows (Err r) = row r true ∷ []

-- What the text's writer answers: the position behind the text, or the refusal of the first condition that holds.
unfoldable pub put_of : ℕ → ℕ → List Row → List ℕ → Result ℕ Refusal
put_of size at own text = result_and (first_of (put_rows size at own (length text))) (Ok (at + length text))

-- A text that can be put into some buffer at some position. Room can always be had, so this says something of the text's own rows alone.
pub record CanBePut (own : List Row) (text : List ℕ) : Type 0 where
  pub size : ℕ
  pub at : ℕ
  pub next : ℕ
  pub answers : put_of size at own text ≡ Ok next

-- A buffer with a text put over what stood there from a position on.
unfoldable pub put_at : List ℕ → ℕ → List ℕ → List ℕ
put_at buf at text = take at buf ++ (text ++ drop (at + length text) buf)

-- What the buffer holds in the end: the text at its position, or what it held before if the text was refused.
unfoldable pub buffer_after : List ℕ → ℕ → List ℕ → Result ℕ Refusal → List ℕ
buffer_after buf at text (Ok next) = put_at buf at text
buffer_after buf at text (Err r) = buf
