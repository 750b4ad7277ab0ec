-- The bytes that a line is made of: ASCII letters and digits, the comma and the line feed (docs/FORMAT.md, "Bytes, lines and numbers"). A byte is its
-- number, which stands here and nowhere else.
use Rattle.std.specs.Prelude.{ℕ, List, [], ◌∷◌}

-- the line feed, 0A in hexadecimal, which closes every line
abbrev pub line_feed : ℕ
line_feed = 10

-- the comma, which stands between two fields
abbrev pub comma : ℕ
comma = 44

-- The digit 0.
abbrev pub digit_zero : ℕ
digit_zero = 48

-- The digit 9. The others lie between the two, in their order.
abbrev pub digit_nine : ℕ
digit_nine = 57

-- The letters. C, S and E are the first fields of a file's lines, P, T, A and B those of columns, R and X those of printed lines; the words of the
-- openings are made of the others and of some of these.
abbrev pub letter_a : ℕ
letter_a = 65

abbrev pub letter_b : ℕ
letter_b = 66

abbrev pub letter_c : ℕ
letter_c = 67

abbrev pub letter_e : ℕ
letter_e = 69

abbrev pub letter_h : ℕ
letter_h = 72

abbrev pub letter_i : ℕ
letter_i = 73

abbrev pub letter_l : ℕ
letter_l = 76

abbrev pub letter_m : ℕ
letter_m = 77

abbrev pub letter_n : ℕ
letter_n = 78

abbrev pub letter_o : ℕ
letter_o = 79

abbrev pub letter_p : ℕ
letter_p = 80

abbrev pub letter_r : ℕ
letter_r = 82

abbrev pub letter_s : ℕ
letter_s = 83

abbrev pub letter_t : ℕ
letter_t = 84

abbrev pub letter_u : ℕ
letter_u = 85

abbrev pub letter_v : ℕ
letter_v = 86

abbrev pub letter_x : ℕ
letter_x = 88

-- HEATARCHIVE, the word with which every archive begins
abbrev pub archive_word : List ℕ
archive_word =
    letter_h ∷ letter_e ∷ letter_a ∷ letter_t ∷ letter_a ∷ letter_r ∷ letter_c ∷ letter_h ∷ letter_i ∷ letter_v ∷ letter_e ∷ []

-- HEATCOLUMNS, the word with which a file in columns begins
abbrev pub columns_word : List ℕ
columns_word =
    letter_h ∷ letter_e ∷ letter_a ∷ letter_t ∷ letter_c ∷ letter_o ∷ letter_l ∷ letter_u ∷ letter_m ∷ letter_n ∷ letter_s ∷ []
