-- Statements without loops and conditions touch what their accesses touch.
use Rattle.std.proofs.Common.{◌≡◌, ℕ, suc, ◌+◌, ◌<◌, ◌≤◌, Bool, List, [], ◌∷◌, ◌++◌, sym, ap, ◌∙◌, drop, length, get_or, add-one, drop-cons}
use Rattle.std.proofs.lemmas.List.{append_assoc, append-nil, at_drop_all}
use Rattle.base.specs.declared.tree.Bounds.{Bounds}
use Rattle.base.specs.declared.tree.Stmt.{Stmt}
use Rattle.base.specs.Footprint.{Touch, stmt_touches, turns_touch}
use Rattle.base.proofs.LoopTurns.{one_turn_less, no_turn_left}
use Rattle.ranges.specs.declared.access.Access.{Access}
use Rattle.ranges.specs.Seen.{Seen, after, after_touch, list_touches}
use Rattle.ranges.specs.Straight.{Adds, touch_at, touches_at, turns_at}
use Rattle.ranges.proofs.Walked.{after_append}

-- these accesses, and the rest of the statements, touch what all statements do
abbrev pub AddsUpTo : List Access → List Stmt → List Stmt → Type 0
AddsUpTo accesses rest all =
    (loops : List ℕ) (certain : Bool) → touches_at accesses loops certain ++ list_touches rest loops certain
    ≡ list_touches all loops certain

pub next_added : (old new : List Access) (all : List Stmt) (k : ℕ) (s : Stmt) → k < length all → s ≡ get_or all k s →
    AddsUpTo old (drop k all) all → Adds (stmt_touches s) old new → AddsUpTo new (drop (k + 1) all) all
next_added old new all k s lt is so adds loops certain =
    ap (λ (ts : List Touch). ts ++ list_touches (drop (k + 1) all) loops certain) (adds loops certain)
    ∙ append_assoc (touches_at old loops certain) (stmt_touches s loops certain) (list_touches (drop (k + 1) all) loops certain)
    ∙ ap (λ (ts : List Touch). touches_at old loops certain ++ ts)
    (ap (λ n. stmt_touches s loops certain ++ list_touches (drop n all) loops certain) (add-one k)
    ∙ ap (λ x. stmt_touches x loops certain ++ list_touches (drop (suc k) all) loops certain) is
    ∙ ap (λ xs. list_touches xs loops certain) (sym (drop-cons all k s lt)))
    ∙ so loops certain

pub all_added : (accesses : List Access) (all : List Stmt) (k : ℕ) → length all ≤ k → AddsUpTo accesses (drop k all) all →
    (loops : List ℕ) (certain : Bool) → touches_at accesses loops certain ≡ list_touches all loops certain
all_added accesses all k le so loops certain =
    sym (append-nil (touches_at accesses loops certain))
    ∙ ap (λ (ts : List Touch). touches_at accesses loops certain ++ ts)
    (sym (at_drop_all (λ xs. list_touches xs loops certain) all k le))
    ∙ so loops certain

-- the next access was noted
pub next_noted : (lengths : List ℕ) (accesses : List Access) (k : ℕ) (a : Access) (loops : List ℕ) (certain : Bool)
    (seen new : Seen) → k < length accesses → a ≡ get_or accesses k a →
    new ≡ after_touch lengths (touch_at loops certain a) seen →
    after lengths (touches_at (drop (k + 1) accesses) loops certain) new
    ≡ after lengths (touches_at (drop k accesses) loops certain) seen
next_noted lengths accesses k a loops certain seen new lt is new_is =
    ap (λ n. after lengths (touches_at (drop n accesses) loops certain) new) (add-one k)
    ∙ ap (λ s. after lengths (touches_at (drop (suc k) accesses) loops certain) s) new_is
    ∙ ap (λ (x : Access). after lengths (touches_at (drop (suc k) accesses) loops certain)
    (after_touch lengths (touch_at loops certain x) seen)) is
    ∙ ap (λ (xs : List Access). after lengths (touches_at xs loops certain) seen) (sym (drop-cons accesses k a lt))

-- one turn was noted, and the turns after it are left
pub turn_noted : (lengths : List ℕ) (v : ℕ) (b : Bounds) (accesses : List Access) (loops held : List ℕ) (certain : Bool)
    (seen new : Seen) → v < b.end → held ≡ loops ++ v ∷ [] → new ≡ after lengths (touches_at accesses held certain) seen →
    after lengths (turns_at (v + b.step) b accesses loops certain) new
    ≡ after lengths (turns_at v b accesses loops certain) seen
turn_noted lengths v b accesses loops held certain seen new h held_is new_is =
    ap (λ s. after lengths (turns_at (v + b.step) b accesses loops certain) s)
    (new_is ∙ ap (λ ls. after lengths (touches_at accesses ls certain) seen) held_is)
    ∙ sym (after_append lengths (touches_at accesses (loops ++ v ∷ []) certain)
    (turns_at (v + b.step) b accesses loops certain) seen)
    ∙ ap (λ ts. after lengths ts seen)
    (sym (ap (λ n. turns_touch n v b.step (λ v. touches_at accesses (loops ++ v ∷ []) certain)) (one_turn_less v b h)))

pub no_turn_noted : (v : ℕ) (b : Bounds) (accesses : List Access) (loops : List ℕ) (certain : Bool) → b.end ≤ v →
    turns_at v b accesses loops certain ≡ []
no_turn_noted v b accesses loops certain h =
    ap (λ n. turns_touch n v b.step (λ v. touches_at accesses (loops ++ v ∷ []) certain)) (no_turn_left v b h)
