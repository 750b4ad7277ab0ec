-- What a read gave stands behind what stood there before.
use Rattle.std.proofs.Common.{◌≡◌, ℕ, ◌+◌, ◌-◌, ◌≤◌, List, ◌++◌, rules, length, take, drop, sym, ap, ◌∙◌, subst, drop_at, length-take-le}
use Rattle.std.proofs.Math.Seq.{take-add, take-append-le}
use Rattle.std.proofs.KnownBytes.{Consumes-trans}
use Rattle.std.specs.Io.KnownBytes.{Consumes}
use borrow.Rule.Slice.PartMut.{put_mid, post_of, take_put}
use Rattle.audit.proofs.input.read_all.Goals as goal

-- the first a + n bytes, with ys put in from the position a on
front_put : (a k n : ℕ) (xs ys : List ℕ) → a ≤ length xs → n ≤ length ys → take (a + n) (put_mid a k xs ys) ≡ take a xs ++ take n ys
front_put a k n xs ys within fits =
    let after = post_of a k xs in
    take-add a n (put_mid a k xs ys)
    ∙ ap (λ l. l ++ take n (drop a (put_mid a k xs ys))) (take_put a k xs ys within)
    ∙ ap (λ l. take a xs ++ take n l) (drop_at (take a xs) (ys ++ after) a (length-take-le a xs within))
    ∙ ap (λ l. take a xs ++ l) (take-append-le n ys after fits)

pub loop-done-preserved : goal.loop-done-preserved
loop-done-preserved g c =
    let from = c.loop-done.done in
    let room = length c.loop-done.buf - from in
    let split = front_put from room c.in_ok-more.more c.loop-done.buf c.read.new.buf c.loop-done.invariant.1 c.in_ok-more.ensures.bound.0 in
    (search rules, search rules, subst (Consumes _ _) (sym split) (Consumes-trans _ _ _ _ _ c.loop-done.invariant.2 c.in_ok-more.ensures.bytes.0))
