-- A text put over the front of a part of a buffer. A writer lends the part from a position on to the writer of each piece, and that one puts its piece
-- at the front of what it is lent.
use Rattle.std.specs.Prelude.{List, ◌++◌, ℕ, length, drop}

-- The part afterwards: the text, and behind it what stood there.
abbrev pub put_front : List ℕ → List ℕ → List ℕ
put_front part text = text ++ drop (length text) part
