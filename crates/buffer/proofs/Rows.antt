-- The rows of a text that is to be put into a buffer: by stages, what holds where none refuses, and which texts can be put at all.
-- Assumes nothing.
use Rattle.std.proofs.Common.{Result, Ok, Err}
use mathlib.Core.Path.{◌≡◌, refl, sym, ap, ◌∙◌}
use mathlib.Core.Bool.{Bool, true, false}
use mathlib.Core.List.{List, [], ◌∷◌, ◌++◌}
use mathlib.Core.Logic.{◌⊎◌, inl, inr}
use Rattle.std.specs.Prelude.{◌↔◌}
use Prim.Native.Nat.{ℕ, ◌+◌, ◌-◌, ◌≤◌}
use native.Mathlib.Omega.{arith}
use lib.Dec.{ltb}
use lib.ListN.{length}
use borrow.Author.Tests.{le-ltb, ltb-false}
use Rattle.std.specs.Result.{result_and}
use Rattle.quantity.specs.Refusals.{row, first_of, refusal_number, first_number, NoneApplies}
use Rattle.quantity.specs.declared.refusal.Refusal.{Refusal}
use Rattle.quantity.specs.declared.refusal.Refusal.TheVariants as R
use Rattle.quantity.specs.declared.refusal.Row.{Row}
use Rattle.quantity.proofs.Rows.{parts, none_applies, no_refusal, none_of_parts, none_together, answered, number_of_rows, first_number_lem}
use Rattle.buffer.specs.Putting.{as_rows, put_rows, put_of, CanBePut}
use Rattle.buffer.specs.Theorems.{Fits, FitsExactly}

-- by stages: the position, the text's own, the room
abbrev pub place_stage : ℕ → ℕ → Result Unit Refusal
place_stage size at = first_of (row R.PlaceBeyond (ltb size at) ∷ [])

-- the front is never beyond
pub at_front : (size : ℕ) → place_stage size 0 ≡ Ok tt
unfolding first_of
at_front size = rw (le-ltb size 0 (omega arith)) refl

abbrev pub room_stage : ℕ → ℕ → ℕ → Result Unit Refusal
room_stage size at needed = first_of (row R.Room (ltb (size - at) needed) ∷ [])

module _ (size at : ℕ) (own : List Row) (needed : ℕ) where
  pub in_stages : first_of (put_rows size at own needed) ≡ result_and (place_stage size at) (result_and (first_of own) (room_stage size at needed))
  unfolding put_rows
  in_stages =
      parts (row R.PlaceBeyond (ltb size at) ∷ []) (own ++ (row R.Room (ltb (size - at) needed) ∷ []))
      ∙ ap (result_and (place_stage size at)) (parts own (row R.Room (ltb (size - at) needed) ∷ []))

  -- each stage decides where those before it refuse nothing
  pub by_place : (r : Refusal) → place_stage size at ≡ Err r → Err r ≡ first_of (put_rows size at own needed)
  by_place r e = sym (in_stages ∙ rw e)

  pub by_own : place_stage size at ≡ Ok tt → (r : Refusal) → first_of own ≡ Err r → Err r ≡ first_of (put_rows size at own needed)
  by_own f r e = sym (in_stages ∙ rw (f, e))

  pub by_room : place_stage size at ≡ Ok tt → first_of own ≡ Ok tt → room_stage size at needed ≡ first_of (put_rows size at own needed)
  by_room f e = sym (in_stages ∙ rw (f, e))

  -- what holds where no row refuses
  pub unrefused : first_of (put_rows size at own needed) ≡ Ok tt → NoneApplies own × (at + needed ≤ size)
  unfolding put_rows
  unrefused e =
      let n = none_applies (put_rows size at own needed) e in
      let p = none_of_parts own (row R.Room (ltb (size - at) needed) ∷ []) n.1 in
      let within : at ≤ size = ltb-false size at n.0 in
      let room : needed ≤ size - at = ltb-false (size - at) needed p.1.0 in
      (p.0, omega arith)

  pub none_refuses : NoneApplies own → at + needed ≤ size → first_of (put_rows size at own needed) ≡ Ok tt
  unfolding put_rows
  none_refuses n h =
      no_refusal (put_rows size at own needed)
      (le-ltb size at (omega arith), none_together own (row R.Room (ltb (size - at) needed) ∷ []) n (le-ltb (size - at) needed (omega arith), tt))

-- a text is put so far exactly where its own rows refuse nothing and it fits
pub put_exactly : (size at : ℕ) (own : List Row) (text : List ℕ) (next : ℕ) → (put_of size at own text ≡ Ok next) ↔ (NoneApplies own × Fits size at (length text) next)
unfolding put_of
put_exactly size at own text next = (forth, back)
  where
    forth : put_of size at own text ≡ Ok next → NoneApplies own × Fits size at (length text) next
    forth f =
        let p = answered (first_of (put_rows size at own (length text))) (at + length text) next f in
        let u = unrefused size at own (length text) p.0 in
        (u.0, record { ends = sym p.1; room = omega (arith, p.1, u.1) })

    back : NoneApplies own × Fits size at (length text) next → put_of size at own text ≡ Ok next
    back f =
        let room : at + length text ≤ size = omega (arith, f.1.ends, f.1.room) in
        ap (λ (o : Result Unit Refusal). result_and o (Ok (at + length text))) (none_refuses size at own (length text) f.0 room)
        ∙ ap (λ (n : ℕ). Ok n) (sym f.1.ends)

-- LAW, for the writer of a text that answers x: by what it means that its own rows refuse nothing (P), and by how many bytes it has (n)
pub put_exactly_where : (size at : ℕ) (own : List Row) (text : List ℕ) (n : ℕ) (P : Type 0) → length text ≡ n → (NoneApplies own ↔ P) →
    (x : Result ℕ Refusal) → x ≡ put_of size at own text → (next : ℕ) → (x ≡ Ok next) ↔ (P × Fits size at n next)
put_exactly_where size at own text n P l means x e next =
    let p = put_exactly size at own text next in (
      λ f.
          let q = p.0 (sym e ∙ f) in
          (means.0 q.0, record { ends = q.1.ends ∙ ap (λ (k : ℕ). at + k) l; room = q.1.room }),
      λ q. e ∙ p.1 (means.1 q.0, record { ends = q.1.ends ∙ ap (λ (k : ℕ). at + k) (sym l); room = q.1.room }),
    )

-- room for its bytes from the front on is enough
pub can_be_put_exactly : (own : List Row) (text : List ℕ) → CanBePut own text ↔ NoneApplies own
can_be_put_exactly own text = (
  λ w. ((put_exactly w.size w.at own text w.next).0 w.answers).0,
  λ n.
      let k : ℕ = length text in
      record { size = k; at = 0; next = k; answers = (put_exactly k 0 own text k).1 (n, record { ends = omega arith; room = omega arith }) },
)

-- a text whose own rows refuse nothing is refused only for the buffer's sake
pub refused_for_buffer : (size at : ℕ) (own : List Row) (text : List ℕ) (r : Refusal) → NoneApplies own → put_of size at own text ≡ Err r →
    (r ≡ R.PlaceBeyond) ⊎ (r ≡ R.Room)
unfolding put_of first_of
refused_for_buffer size at own text r n e =
    by (ltb size at) (ltb (size - at) (length text))
    (ap (λ (o : Result Unit Refusal). result_and o (Ok (at + length text))) (sym (in_stages size at own (length text) ∙ rw (no_refusal own n))) ∙ e)
  where
    by : (s t : Bool) →
        result_and (result_and (first_of (row R.PlaceBeyond s ∷ [])) (result_and (Ok (tt {0})) (first_of (row R.Room t ∷ [])))) (Ok (at + length text)) ≡ Err r →
        (r ≡ R.PlaceBeyond) ⊎ (r ≡ R.Room)
    by true t e = inl (sym (cc e))
    by false true e = inr (sym (cc e))
    by false false e = absurd cc

-- and the number that it gives is that of the rows
pub put_number : (size at : ℕ) (own : List Row) (text : List ℕ) (x : Result ℕ Refusal) → x ≡ put_of size at own text →
    refusal_number x ≡ first_number (put_rows size at own (length text))
unfolding put_of
put_number size at own text x e = ap refusal_number e ∙ number_of_rows (put_rows size at own (length text)) (at + length text)

-- an answer as rows answers the same
pub as_rows_lem : (own : Result Unit Refusal) → own ≡ first_of (as_rows own)
unfolding as_rows first_of
as_rows_lem (Ok u) = refl
as_rows_lem (Err r) = refl

-- For the writer of a text, which asks `put_refusal` with the answer of the text's own rows (o), and then puts the text at the front of the part from the
-- position on. A refusal (r) is passed on; where none is given, there is room, and the answer is the position behind the text.
module _ (size at needed : ℕ) (own : List Row) (text : List ℕ) (o r : Result Unit Refusal)
    (fits : needed ≡ length text) (rows : o ≡ first_of own) (is : r ≡ first_of (put_rows size at (as_rows o) needed)) where
  by_rows : r ≡ first_of (put_rows size at own (length text))
  by_rows =
      is
      ∙ in_stages size at (as_rows o) needed
      ∙ ap (λ (p : Result Unit Refusal). result_and (place_stage size at) (result_and p (room_stage size at needed))) (sym (as_rows_lem o) ∙ rows)
      ∙ sym (in_stages size at own needed)
      ∙ ap (λ (n : ℕ). first_of (put_rows size at own n)) fits

  pub refused_put : (e : Refusal) (x : Result ℕ Refusal) → r ≡ Err e → x ≡ Err e → x ≡ put_of size at own text
  unfolding put_of
  refused_put e x f g = g ∙ sym (rw (sym by_rows ∙ f) refl)

  pub room_left : r ≡ Ok tt → NoneApplies own × (at + length text ≤ size)
  room_left f = unrefused size at own (length text) (sym by_rows ∙ f)

  pub whole_put : (n : ℕ) → r ≡ Ok tt → n ≡ length text → Ok (at + n) ≡ put_of size at own text
  unfolding put_of
  whole_put n f g = sym (rw (sym by_rows ∙ f, g) refl)

-- ---- for `put_refusal`, by what refuses the text itself

own_none : (own : Result Unit Refusal) → NoneApplies (as_rows own) ↔ (own ≡ Ok tt)
own_none own = (
  λ n. as_rows_lem own ∙ no_refusal (as_rows own) n,
  λ e. none_applies (as_rows own) (sym (as_rows_lem own) ∙ e),
)

pub fits_exactly : (size at needed : ℕ) (own answer : Result Unit Refusal) → answer ≡ first_of (put_rows size at (as_rows own) needed) → FitsExactly size at own needed answer
fits_exactly size at needed own answer e = (
  λ f. let u = unrefused size at (as_rows own) needed (sym e ∙ f) in ((own_none own).0 u.0, u.1),
  λ p. e ∙ none_refuses size at (as_rows own) needed ((own_none own).1 p.0) p.1,
)

pub put_refusal_number : (size at needed : ℕ) (own answer : Result Unit Refusal) → answer ≡ first_of (put_rows size at (as_rows own) needed) →
    refusal_number answer ≡ first_number (put_rows size at (as_rows own) needed)
put_refusal_number size at needed own answer e = ap refusal_number e ∙ first_number_lem (put_rows size at (as_rows own) needed)
