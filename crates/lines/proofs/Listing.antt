-- A line's numbers one after the other: how many bytes they take, whether one is too large, and their text as it is put together.
-- Assumes nothing.
use mathlib.Core.Path.{◌≡◌, refl, sym, ap, ◌∙◌, subst}
use mathlib.Core.Bool.{◌||◌}
use Rattle.std.specs.List.{sum_by}
use Rattle.std.proofs.lemmas.List.Sums.{sum_by-cons}
use mathlib.Core.List.{List, [], ◌∷◌, ◌++◌, append_assoc, append-nil, map}
use Prim.Native.Nat.{ℕ, suc, ◌+◌, ◌-◌, ◌*◌, ◌^◌, ◌≤◌, ◌<◌}
use native.Mathlib.Omega.{arith}
use native.Mathlib.Numerals.{add-one}
use lib.ListN.{length, get_or, take, drop, set, length-append, drop_of_length-le}
use lib.Seq.{drop-cons}
use Rattle.buffer.specs.Front.{put_front}
use Rattle.buffer.proofs.Puts.{Wrote, wrote_none, wrote_length, wrote_room, wrote_more, wrote_byte}
use Rattle.lines.specs.Bytes.{line_feed, comma}
use Rattle.lines.specs.Number.{decimal, most_digits64, some_long, some_nonzero}
use Rattle.lines.specs.Line.{kind_of, first_field, numbers_of, lacked_of, after_commas, text_of, bytes_of}
use Rattle.lines.specs.Inside.Parts.{Parted, numbers_parted, most_numbers}
use Rattle.lines.specs.declared.line.EditionLine.{EditionLine}
use Rattle.lines.proofs.Decimals.{decimal_short}

-- ---- how many bytes

-- the text of the numbers from i on
abbrev text_from : List ℕ → ℕ → List ℕ
text_from ns i = after_commas (map decimal (drop i ns))

text_one : (ns : List ℕ) (i : ℕ) → i < length ns → text_from ns i ≡ (comma ∷ decimal (get_or ns i 0)) ++ text_from ns (i + 1)
unfolding after_commas
text_one ns i h = rw (add-one, drop-cons ns i 0 h)

text_none : (ns : List ℕ) (i : ℕ) → length ns ≤ i → text_from ns i ≡ []
unfolding after_commas
text_none ns i h = rw (drop_of_length-le ns h)

-- the fields of numbers, by the width of each
pub fields_sum : (ns : List ℕ) → sum_by (λ n. length (decimal n) + 1) ns ≡ length (text_from ns 0)
unfolding after_commas
fields_sum [] = refl
fields_sum (n ∷ ns) =
    sum_by-cons (λ (m : ℕ). length (decimal m) + 1) n ns
    ∙ omega (arith, fields_sum ns, length-append (decimal n) (text_from ns 0))

pub width_small : (x : ℕ) → x < 2 ^ 64 → length (decimal x) ≤ most_digits64
width_small x h = decimal_short x most_digits64 (omega arith) (omega arith)

-- the most bytes of so many numbers, each after a comma
abbrev most_bytes : ℕ → ℕ
most_bytes count = (1 + most_digits64) * count

-- numbers of 64 bits
pub fields_within : (ns : List ℕ) → ((i : ℕ) → get_or ns i 0 < 2 ^ 64) → length (text_from ns 0) ≤ most_bytes (length ns)
unfolding after_commas
fields_within [] h = omega arith
fields_within (n ∷ ns) h =
    let w : length (decimal n) ≤ most_digits64 = width_small n (h 0) in
    let l = length-append (decimal n) (text_from ns 0) in
    omega (arith, w, l, fields_within ns (λ i. h (suc i)))

pub fields_small : (ns : List ℕ) → length ns ≤ most_numbers → ((i : ℕ) → get_or ns i 0 < 2 ^ 64) → sum_by (λ n. length (decimal n) + 1) ns ≤ most_bytes most_numbers
fields_small ns few h = omega (arith, fields_sum ns, fields_within ns h)

pub text_size : (first ns : List ℕ) (n : ℕ) → n ≡ sum_by (λ m. length (decimal m) + 1) ns → length first + n + 1 ≡ length (text_of first ns)
unfolding text_of
text_size first ns n e = simp length-append (omega (arith, e, fields_sum ns))

-- ---- the text as it is put together

-- the first i numbers were put at the front of xs, which made ys, and k is the position after them
pub record Progress (xs ns ys : List ℕ) (k i : ℕ) : Type 0 where
  pub few : i ≤ length ns
  pub text : List ℕ
  pub wrote : Wrote xs text ys k
  pub left : text ++ text_from ns i ≡ text_from ns 0

pub begun : (xs ns : List ℕ) → Progress xs ns xs 0 0
begun xs ns = record { few = omega arith; text = []; wrote = wrote_none xs; left = refl }

module _ (xs ns ys : List ℕ) (k i : ℕ) (p : Progress xs ns ys k i) (room : length (text_from ns 0) ≤ length xs) where
  sizes : length p.text + length (text_from ns i) ≡ length (text_from ns 0)
  sizes = sym (length-append p.text (text_from ns i)) ∙ ap length p.left

  module _ (h : i < length ns) where
    fits : length p.text + length (comma ∷ decimal (get_or ns i 0)) ≤ length xs
    fits = omega (arith, sizes, ap length (text_one ns i h) ∙ length-append (comma ∷ decimal (get_or ns i 0)) (text_from ns (i + 1)))

    pub next_room : length (comma ∷ decimal (get_or ns i 0)) ≤ length (take (length ys - k) (drop k ys))
    next_room = wrote_room xs p.text ys k p.wrote (comma ∷ decimal (get_or ns i 0)) fits

    pub next_place : k ≤ length ys
    next_place = omega (arith, fits, p.wrote.next, wrote_length xs p.text ys k p.wrote [] (omega (arith, fits)))

    pub next : (part : List ℕ) (r : ℕ) → r ≡ length (comma ∷ decimal (get_or ns i 0))
        → part ≡ put_front (take (length ys - k) (drop k ys)) (comma ∷ decimal (get_or ns i 0))
        → Progress xs ns (take k ys ++ (part ++ drop (length ys - k) (drop k ys))) (k + r) (i + 1)
    next part r e g = record {
      few = omega arith;
      text = p.text ++ (comma ∷ decimal (get_or ns i 0));
      wrote = wrote_more xs p.text ys k p.wrote (comma ∷ decimal (get_or ns i 0)) fits part r e g;
      left = append_assoc p.text (comma ∷ decimal (get_or ns i 0)) (text_from ns (i + 1)) ∙ ap (λ (l : List ℕ). p.text ++ l) (sym (text_one ns i h)) ∙ p.left;
    }

  pub all : length ns ≤ i → Wrote xs (text_from ns 0) ys k
  all h = subst (λ (t : List ℕ). Wrote xs t ys k) (sym (append-nil p.text) ∙ ap (λ (l : List ℕ). p.text ++ l) (sym (text_none ns i h)) ∙ p.left) p.wrote

-- the first field, the numbers and the end
module _ (xs first ns : List ℕ) (room : length (text_of first ns) ≤ length xs) where
  sizes_text : length (text_of first ns) ≡ length first + length (text_from ns 0) + 1
  unfolding text_of
  sizes_text = simp length-append (omega arith)

  pub first_room : length first ≤ length xs
  first_room = omega (arith, sizes_text)

  -- the part with the first field in it
  module _ (zs : List ℕ) (f : zs ≡ put_front xs first) where
    began : Wrote xs first zs (length first)
    began = record { holds = f; next = refl }

    pub fields_room : length (text_from ns 0) ≤ length (take (length zs - length first) (drop (length first) zs))
    fields_room = wrote_room xs first zs (length first) began (text_from ns 0) (omega (arith, sizes_text))

    -- and the numbers behind it
    module _ (part : List ℕ) (r : ℕ) (e : r ≡ length (text_from ns 0)) (g : part ≡ put_front (take (length zs - length first) (drop (length first) zs)) (text_from ns 0)) where
      abbrev with_fields : List ℕ
      with_fields = take (length first) zs ++ (part ++ drop (length zs - length first) (drop (length first) zs))

      put : Wrote xs (first ++ text_from ns 0) with_fields (length first + r)
      put = wrote_more xs first zs (length first) began (text_from ns 0) (omega (arith, sizes_text)) part r e g

      pub end_room : length first + r < length with_fields
      end_room = omega (arith, sizes_text, e, wrote_length xs (first ++ text_from ns 0) with_fields (length first + r) put [] (omega (arith, sizes_text, length-append first (text_from ns 0))))

      pub text_put : Wrote xs (text_of first ns) (set with_fields (length first + r) line_feed) (length first + r + 1)
      unfolding text_of
      text_put =
          subst (λ (t : List ℕ). Wrote xs t (set with_fields (length first + r) line_feed) (length first + r + 1)) (append_assoc first (text_from ns 0) (line_feed ∷ []))
          (wrote_byte xs (first ++ text_from ns 0) with_fields (length first + r) line_feed put (omega (arith, sizes_text, length-append first (text_from ns 0))))

-- ---- a line's numbers as they are listed

module _ (line : EditionLine) (l : Parted) (is : l ≡ numbers_parted line) where
  pub text_is : (f s : List ℕ) → f ≡ first_field (kind_of line.line) → s ≡ l.shown → text_of f s ≡ bytes_of line
  unfolding bytes_of numbers_of
  text_is f s e g = rw (e, g, is)

  pub refused_is : (some_long l.shown || some_nonzero l.lacked) ≡ (some_long (numbers_of line) || some_nonzero (lacked_of line))
  unfolding numbers_of lacked_of
  refused_is = rw is
