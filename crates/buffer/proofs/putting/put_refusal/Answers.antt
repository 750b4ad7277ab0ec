-- The rows by their stages.
use Rattle.std.proofs.Common.{◌≡◌, ◌∙◌, sym}
use Rattle.quantity.proofs.Rows.{passed_on}
use Rattle.buffer.specs.Putting.{as_rows}
use Rattle.buffer.proofs.Rows.{place_stage, room_stage, as_rows_lem, by_place, by_own, by_room, put_refusal_number, fits_exactly}
use Rattle.buffer.proofs.putting.put_refusal.Goals as goal

pub returns-in_err-first_refusal-clause-answer : goal.returns-in_err-first_refusal-clause-answer
returns-in_err-first_refusal-clause-answer c =
    let a = c.args in
    let place : c.first_refusal.result ≡ place_stage a.size a.at = c.first_refusal.ensures.answer ∙ rw c.when.ensures in
    passed_on _ _ c.from_residual.ensures.1 ∙ by_place a.size a.at (as_rows a.own) a.needed _ (sym place ∙ c.in_err-first_refusal.was)

pub returns-in_err-own-clause-answer : goal.returns-in_err-own-clause-answer
returns-in_err-own-clause-answer c =
    let a = c.args in
    let place : c.first_refusal.result ≡ place_stage a.size a.at = c.first_refusal.ensures.answer ∙ rw c.when.ensures in
    passed_on _ _ c.from_residual-in_err-own.ensures.1
    ∙ by_own a.size a.at (as_rows a.own) a.needed (sym place ∙ c.in_ok-first_refusal.was) _ (sym (as_rows_lem a.own) ∙ c.in_err-own.was)

pub returns-clause-answer : goal.returns-clause-answer
returns-clause-answer c =
    let a = c.args in
    let place : c.first_refusal.result ≡ place_stage a.size a.at = c.first_refusal.ensures.answer ∙ rw c.when.ensures in
    let room : c.first_refusal-2.result ≡ room_stage a.size a.at a.needed = c.first_refusal-2.ensures.answer ∙ rw c.when-2.ensures in
    room ∙ by_room a.size a.at (as_rows a.own) a.needed (sym place ∙ c.in_ok-first_refusal.was) (sym (as_rows_lem a.own) ∙ c.in_ok-own.was)

pub returns-in_err-first_refusal-clause-number : goal.returns-in_err-first_refusal-clause-number
returns-in_err-first_refusal-clause-number c = put_refusal_number _ _ _ c.args.own _ (returns-in_err-first_refusal-clause-answer c)

pub returns-in_err-own-clause-number : goal.returns-in_err-own-clause-number
returns-in_err-own-clause-number c = put_refusal_number _ _ _ c.args.own _ (returns-in_err-own-clause-answer c)

pub returns-clause-number : goal.returns-clause-number
returns-clause-number c = put_refusal_number _ _ _ c.args.own _ (returns-clause-answer c)

pub returns-in_err-first_refusal-clause-fits_exactly : goal.returns-in_err-first_refusal-clause-fits_exactly
returns-in_err-first_refusal-clause-fits_exactly c = fits_exactly _ _ _ c.args.own _ (returns-in_err-first_refusal-clause-answer c)

pub returns-in_err-own-clause-fits_exactly : goal.returns-in_err-own-clause-fits_exactly
returns-in_err-own-clause-fits_exactly c = fits_exactly _ _ _ c.args.own _ (returns-in_err-own-clause-answer c)

pub returns-clause-fits_exactly : goal.returns-clause-fits_exactly
returns-clause-fits_exactly c = fits_exactly _ _ _ c.args.own _ (returns-clause-answer c)
