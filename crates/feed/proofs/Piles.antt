-- A pile that can be undone: what a write above it, one more entry, and the way back to the start come to.
use Rattle.std.proofs.Common.{◌≡◌, ℕ, zero, suc, ◌<◌, ◌≤◌, ◌≢◌, List, [], ◌∷◌, ◌++◌, length, get_or, set, ℤ, pos, ◌+ℤ◌, ◌-ℤ◌, refl, ap, ◌∙◌, arith}
use Rattle.std.proofs.lemmas.List.{get_or-set_other, get_or-set_same}
use Rattle.std.proofs.lemmas.Int.{ints}
use Rattle.feed.specs.Board.{made}
use Rattle.feed.specs.Job.{ceiling, most_entries}
use Rattle.feed.specs.Whole.{entry, entries, sum}
use Rattle.feed.specs.Course.{Undoable}
use Rattle.feed.proofs.Entries.{entry_read}

undoable_set : (start : ℕ) (es : List ℤ) (j : ℕ) (d : ℤ) (k a : ℕ) → k ≤ j → Undoable start es k a → Undoable start (set es j d) k a
undoable_set start es j d zero a h u = u
undoable_set start es j d (suc k) a h (x, e, m, u) =
    let ne : k ≢ j = omega arith in
    (x, ap (λ z. pos a -ℤ z) (get_or-set_other es j k d (pos 0) ne) ∙ e, m, undoable_set start es j d k x (omega arith) u)

-- the newest entry d moved the setpoint from a to b, and undoing it moves it back
pub newest_undone : (es : List ℤ) (d : ℤ) (k a b : ℕ) → k < length es → pos a +ℤ d ≡ pos b → pos b -ℤ get_or (set es k d) k (pos 0) ≡ pos a
newest_undone es d k a b l e = let s = get_or-set_same es k d (pos 0) l in omega (arith, ints)

pub undoable_push : (start : ℕ) (es : List ℤ) (d : ℤ) (k a b : ℕ) → k < length es → a ≤ ceiling → pos a +ℤ d ≡ pos b → Undoable start es k a →
    Undoable start (set es k d) (suc k) b
undoable_push start es d k a b l m e u = (a, newest_undone es d k a b l e, m, undoable_set start es k d k a (omega arith) u)

sum_push : (xs : List ℤ) (d : ℤ) → sum (xs ++ d ∷ []) ≡ sum xs +ℤ d
sum_push [] d = omega (arith, ints)
sum_push (x ∷ xs) d = let r = sum_push xs d in omega (arith, ints)

-- the setpoint a is the start and the sum of the entries 1 to k, on a board whose other registers do not matter
pub undoable_sum : (a₀ k₀ w₀ start : ℕ) (es : List ℤ) (k a : ℕ) → k ≤ most_entries → Undoable start es k a →
    pos a ≡ pos start +ℤ sum (entries (made a₀ k₀ w₀ es) k)
undoable_sum a₀ k₀ w₀ start es zero a h u = ap pos u ∙ omega (arith, ints)
undoable_sum a₀ k₀ w₀ start es (suc k) a h (x, e, m, u) =
    let b = made a₀ k₀ w₀ es in
    let r = undoable_sum a₀ k₀ w₀ start es k x (omega arith) u in
    let s = sum_push (entries b k) (entry b (suc k)) in
    let d = entry_read a₀ k₀ w₀ es k h in
    omega (arith, ints)

-- a write of entry j + 1 leaves the entries 1 to k below it, whatever stands in the other registers
pub entries-set : (a₀ k₀ w₀ a₁ k₁ w₁ : ℕ) (es : List ℤ) (j : ℕ) (d : ℤ) (k : ℕ) → k ≤ j → j < most_entries →
    entries (made a₁ k₁ w₁ (set es j d)) k ≡ entries (made a₀ k₀ w₀ es) k
entries-set a₀ k₀ w₀ a₁ k₁ w₁ es j d zero h l = refl
entries-set a₀ k₀ w₀ a₁ k₁ w₁ es j d (suc k) h l =
    let r = entries-set a₀ k₀ w₀ a₁ k₁ w₁ es j d k (omega arith) l in
    let ne : k ≢ j = omega arith in
    let new = entry_read a₁ k₁ w₁ (set es j d) k (omega arith) in
    let old = entry_read a₀ k₀ w₀ es k (omega arith) in
    let other = get_or-set_other es j k d (pos 0) ne in
    cc
