-- The shape of a line: a first field and numbers that are joined have it, and bytes that have it are joined of those.
-- Assumes nothing.
use Rattle.std.proofs.Common.{Ok}
use mathlib.Core.Path.{◌≡◌, refl, sym, ap, ◌∙◌}
use mathlib.Core.Bool.{true, false, not, ◌||◌}
use mathlib.Core.List.{List, [], ◌∷◌, ◌++◌, append_assoc, map}
use Prim.Native.Nat.{ℕ, ◌^◌}
use native.Mathlib.Omega.{arith}
use lib.Dec.{leb, eqb}
use lib.ListN.{length, drop, length-append, length-map}
use borrow.Author.Tests.{eq-eqb, ne_eqb, eqb-true, leb-false, lt-leb, not-false}
use Rattle.quantity.specs.Refusals.{first_of}
use Rattle.quantity.proofs.Rows.{none_applies, no_refusal}
use Rattle.quantity.proofs.Conditions.{neither, both}
use Rattle.lines.specs.Bytes.{line_feed, comma}
use Rattle.lines.specs.Number.{decimal, is_digit, are_digits, is_number, value_of, most_digits, some_long}
use Rattle.lines.specs.Line.{after_commas, text_of}
use Rattle.lines.specs.Reading.{same_bytes, until_end, is_ended, size_of, fields_in, first_in, others_in, are_numbers, numbers_in, is_misshapen, shape_rows}
use Rattle.lines.proofs.Decimals.{true_both, decimal_digits, decimal_is_number, value_decimal, number_decimal, number_small}
use Rattle.lines.proofs.Same.{same_refl, same_true}
use Rattle.lines.proofs.Splitting.{lacks, EachLacks, lacks_append, lacks_commas, split_joined, until_end_lem, is_ended_lem, ended_bytes, joined_split}

-- ---- numbers

-- a byte that is no digit is not among digits
digits_lack : (b : ℕ) (d : List ℕ) → is_digit b ≡ false → are_digits d ≡ true → lacks b d ≡ true
unfolding are_digits lacks
digits_lack b [] h p = refl
digits_lack b (x ∷ d) h p =
    let q = both (is_digit x) (are_digits d) p in
    let other : x ≡ b → ⊥ = λ e. let z : true ≡ false = sym q.0 ∙ ap is_digit e ∙ h in absurd (let o : ◌≡◌ {A = ℕ} 0 1 = cc z in omega arith) in
    simp (ne_eqb x b other, digits_lack b d h q.1)

decimals_lack : (b : ℕ) (ns : List ℕ) → is_digit b ≡ false → EachLacks b (map decimal ns)
decimals_lack b [] h = tt
decimals_lack b (n ∷ ns) h = (digits_lack b (decimal n) h (decimal_digits n), decimals_lack b ns h)

values_decimals : (ns : List ℕ) → map value_of (map decimal ns) ≡ ns
values_decimals [] = refl
values_decimals (n ∷ ns) = rw (value_decimal n, values_decimals ns)

decimals_numbers : (ns : List ℕ) → some_long ns ≡ false → are_numbers (map decimal ns) ≡ true
unfolding are_numbers
decimals_numbers [] h = refl
decimals_numbers (n ∷ ns) h =
    let q = neither (leb (10 ^ most_digits) n) (some_long ns) h in
    true_both (is_number (decimal n)) _ (decimal_is_number n (leb-false (10 ^ most_digits) n q.0)) (decimals_numbers ns q.1)

numbers_decimals : (fs : List (List ℕ)) → are_numbers fs ≡ true → map decimal (map value_of fs) ≡ fs
unfolding are_numbers
numbers_decimals [] h = refl
numbers_decimals (f ∷ fs) h =
    let q = both (is_number f) (are_numbers fs) h in
    rw (number_decimal f q.0, numbers_decimals fs q.1)

numbers_short : (fs : List (List ℕ)) → are_numbers fs ≡ true → some_long (map value_of fs) ≡ false
unfolding are_numbers
numbers_short [] h = refl
numbers_short (f ∷ fs) h =
    let q = both (is_number f) (are_numbers fs) h in
    simp (lt-leb (10 ^ most_digits) (value_of f) (number_small f q.0), numbers_short fs q.1)

-- ---- joined, and read again

-- a first field that a line can have
pub record Plain (first : List ℕ) : Type 0 where
  pub no_comma : lacks comma first ≡ true
  pub no_end : lacks line_feed first ≡ true

-- a line's bytes, and what follows them
abbrev pub line_bytes : List ℕ → List ℕ → List ℕ → List ℕ
line_bytes first ns rest = first ++ (after_commas (map decimal ns) ++ (line_feed ∷ rest))

pub text_line : (first ns rest : List ℕ) → text_of first ns ++ rest ≡ line_bytes first ns rest
unfolding text_of
text_line first ns rest =
    append_assoc first (after_commas (map decimal ns) ++ (line_feed ∷ [])) rest ∙ ap (λ (l : List ℕ). first ++ l) (append_assoc (after_commas (map decimal ns)) (line_feed ∷ []) rest)

module _ (first ns rest : List ℕ) (p : Plain first) where
  body : List ℕ
  body = first ++ after_commas (map decimal ns)

  apart : line_bytes first ns rest ≡ body ++ (line_feed ∷ rest)
  unfolding body
  apart = sym (append_assoc first (after_commas (map decimal ns)) (line_feed ∷ rest))

  body_lacks : lacks line_feed body ≡ true
  unfolding body is_digit
  body_lacks = lacks_append line_feed first (after_commas (map decimal ns)) p.no_end (lacks_commas line_feed (map decimal ns) refl (decimals_lack line_feed ns refl))

  until_back : until_end (line_bytes first ns rest) ≡ body
  until_back = ap until_end apart ∙ until_end_lem rest body body_lacks

  pub ended_back : is_ended (line_bytes first ns rest) ≡ true
  ended_back = ap is_ended apart ∙ is_ended_lem rest body

  pub fields_back : fields_in (line_bytes first ns rest) ≡ first ∷ map decimal ns
  unfolding fields_in body is_digit
  fields_back = rw until_back (split_joined first (map decimal ns) p.no_comma (decimals_lack comma ns refl))

  pub numbers_back : numbers_in (line_bytes first ns rest) ≡ ns
  numbers_back = rw fields_back (values_decimals ns)

  pub size_back : size_of (line_bytes first ns rest) ≡ length (text_of first ns)
  unfolding size_of body text_of
  size_back = rw until_back (simp length-append (omega arith))

  well_shaped : is_misshapen first (length ns) (line_bytes first ns rest) ≡ false
  unfolding is_misshapen
  well_shaped = simp (ended_back, fields_back, same_refl first, eq-eqb (length (map decimal ns)) (length ns) (length-map ns decimal))

  -- LAW: the bytes of a line have its shape
  pub shape_back : some_long ns ≡ false → first_of (shape_rows first (length ns) (line_bytes first ns rest)) ≡ Ok tt
  unfolding shape_rows
  shape_back h = no_refusal (shape_rows first (length ns) (line_bytes first ns rest)) (well_shaped, (rw fields_back (ap not (decimals_numbers ns h)), tt))

-- ---- bytes that have the shape

pub record IsLine (first : List ℕ) (count : ℕ) (bs : List ℕ) : Type 0 where
  pub short : some_long (numbers_in bs) ≡ false
  pub counted : length (numbers_in bs) ≡ count
  pub bytes : bs ≡ line_bytes first (numbers_in bs) (drop (size_of bs) bs)

-- LAW: bytes that have a line's shape are a line's, with what follows it
pub shape_forth : (first : List ℕ) (count : ℕ) (bs : List ℕ) → first_of (shape_rows first count bs) ≡ Ok tt → IsLine first count bs
unfolding shape_rows is_misshapen fields_in
shape_forth first count bs h =
    let n = none_applies (shape_rows first count bs) h in
    let q = neither (not (is_ended bs)) (not (same_bytes (first_in bs) first) || not (eqb (length (others_in bs)) count)) n.0 in
    let r = neither (not (same_bytes (first_in bs) first)) (not (eqb (length (others_in bs)) count)) q.1 in
    let ended : is_ended bs ≡ true = not-false (is_ended bs) q.0 in
    let first_is : first_in bs ≡ first = same_true (first_in bs) first (not-false (same_bytes (first_in bs) first) r.0) in
    let count_is : length (others_in bs) ≡ count = eqb-true (length (others_in bs)) count (not-false (eqb (length (others_in bs)) count) r.1) in
    let numbers : are_numbers (others_in bs) ≡ true = not-false (are_numbers (others_in bs)) n.1.0 in
    let others_are : map decimal (numbers_in bs) ≡ others_in bs = numbers_decimals (others_in bs) numbers in
    let until_is : until_end bs ≡ first ++ after_commas (map decimal (numbers_in bs)) =
    sym (joined_split (until_end bs)) ∙ ap (λ (f : List ℕ). f ++ after_commas (others_in bs)) first_is ∙ ap (λ (fs : List (List ℕ)). first ++ after_commas fs) (sym others_are) in
    record {
      short = numbers_short (others_in bs) numbers;
      counted = length-map (others_in bs) value_of ∙ count_is;
      bytes =
          ended_bytes bs ended
          ∙ ap (λ (l : List ℕ). l ++ (line_feed ∷ drop (size_of bs) bs)) until_is
          ∙ append_assoc first (after_commas (map decimal (numbers_in bs))) (line_feed ∷ drop (size_of bs) bs);
    }
