-- An action that stands first in a strand is asked for.
use Rattle.std.proofs.Common.{◌≡◌, ℕ, zero, suc, List, [], ◌∷◌, Bool, true, false, true≢false, refl, sym, ap, ◌∙◌, map}
use Rattle.base.specs.Meaning.{Run}
use Rattle.base.specs.declared.item.Cell.{Cell}
use Rattle.base.specs.declared.item.MapItem.{MapItem}
use Rattle.base.specs.declared.tree.ArrayId.{ArrayId}
use Rattle.fine_machine.specs.Left.{Left, Asks, Finished, Answer, Request, Side, cells_left, each_left, entry_left, exit_left}
use Rattle.fine_machine.specs.Left as left
use Rattle.actions.specs.declared.strand.Strand.{Strand}
use Rattle.actions.specs.declared.frame.Frame.{Frame}
use Rattle.actions.specs.declared.frame.Frame.TheVariants as frame
use Rattle.actions.specs.Rest.{rest_of, top}
use Rattle.actions.specs.Control.{AllActing}
use Rattle.actions.specs.Strand.{IsActing, IsStopped, is_action, is_first_action, is_positive, is_some_left, left_of, run_of, side_of, stack_of, stops_at}
use Rattle.actions.proofs.Together.{AllAsk}

abbrev pub asks : Left → Bool
asks (Asks q k) = true
asks (Finished t) = false

cells_ask : (ask : Cell → Request) (a : ArrayId) (first n : ℕ) (k : Unit {0} → Left) → is_positive n ≡ true →
    asks (cells_left ask a first n k) ≡ true
cells_ask ask a first zero k some = absurd (true≢false (sym some))
cells_ask ask a first (suc n) k some = refl

entries_ask : (items : List MapItem) (k : Unit {0} → Left) → is_some_left items ≡ true →
    asks (each_left entry_left items k) ≡ true
entries_ask [] k some = absurd (true≢false (sym some))
entries_ask (item ∷ rest) k some = refl

exits_ask : (items : List MapItem) (k : Unit {0} → Left) → is_some_left items ≡ true →
    asks (each_left exit_left items k) ≡ true
exits_ask [] k some = absurd (true≢false (sym some))
exits_ask (item ∷ rest) k some = refl

-- an action that stands first is asked for
pub asks_first : (side : Side) (f : Frame) (rest : List Frame) (loops : List ℕ) (n : ℕ) (s : Run) → is_action f ≡ true →
    asks (rest_of side (f ∷ rest) loops n s) ≡ true
unfolding rest_of
asks_first side (frame.Load a) rest loops n s e = refl
asks_first side (frame.Store a i) rest loops n s e = refl
asks_first side (frame.Combine op a i) rest loops n s e = refl
asks_first side (frame.Remove held) rest loops n s e = refl
asks_first side (frame.Entries maps) rest loops n s e = entries_ask maps.items.now _ e
asks_first side (frame.Exits maps) rest loops n s e = exits_ask maps.items.now _ e
asks_first side (frame.CopyIn cells) rest loops n s e = cells_ask left.CopyIn cells.array cells.first cells.count _ e
asks_first side (frame.CopyOut cells) rest loops n s e = cells_ask left.CopyOut cells.array cells.first cells.count _ e
asks_first side (frame.Unary op) rest loops n s e = absurd (true≢false (sym e))
asks_first side (frame.Right op x) rest loops n s e = absurd (true≢false (sym e))
asks_first side (frame.Both op m) rest loops n s e = absurd (true≢false (sym e))
asks_first side (frame.AndRight x) rest loops n s e = absurd (true≢false (sym e))
asks_first side (frame.OrRight x) rest loops n s e = absurd (true≢false (sym e))
asks_first side frame.Truth rest loops n s e = absurd (true≢false (sym e))
asks_first side (frame.Shift op m) rest loops n s e = absurd (true≢false (sym e))
asks_first side (frame.Divide op m) rest loops n s e = absurd (true≢false (sym e))
asks_first side (frame.Subscript a v) rest loops n s e = absurd (true≢false (sym e))
asks_first side (frame.Place op a x) rest loops n s e = absurd (true≢false (sym e))
asks_first side (frame.Assign x) rest loops n s e = absurd (true≢false (sym e))
asks_first side frame.Print rest loops n s e = absurd (true≢false (sym e))
asks_first side (frame.Choose first second) rest loops n s e = absurd (true≢false (sym e))
asks_first side (frame.Rest all) rest loops n s e = absurd (true≢false (sym e))
asks_first side (frame.Turns turns body) rest loops n s e = absurd (true≢false (sym e))

-- what is left of a strand in which an action comes next
pub acting_asks : (s : Strand) → IsActing s → asks (left_of s) ≡ true
unfolding rest_of
acting_asks s h = go (stack_of s) h
  where
    go : (fs : List Frame) → is_first_action (top fs) ≡ true →
        asks (rest_of (side_of s.on_host) fs s.loops.items s.number (run_of s)) ≡ true
    go [] e = absurd (true≢false (sym e))
    go (f ∷ rest) e = asks_first (side_of s.on_host) f rest s.loops.items s.number (run_of s) e

pub asks_of : (l : Left) → asks l ≡ true → (q : Request) × ((k : Answer → Left) × (l ≡ Asks q k))
asks_of (Asks q k) e = (q, (k, refl))
asks_of (Finished t) e = absurd (true≢false (sym e))

pub never_ended : (s : Strand) (t : Run) → IsActing s → left_of s ≡ Finished t → ⊥
never_ended s t h e = true≢false (sym (acting_asks s h) ∙ ap asks e)

ask_more : (l : Left) (ls : List Left) → asks l ≡ true → AllAsk ls → AllAsk (l ∷ ls)
ask_more (Asks q k) ls e all = all
ask_more (Finished u) ls e all = absurd (true≢false (sym e))

pub all_ask : (ts : List Strand) → AllActing ts → AllAsk (map left_of ts)
all_ask [] h = tt
all_ask (t ∷ ts) h = ask_more (left_of t) (map left_of ts) (acting_asks t h.0) (all_ask ts h.1)

-- a strand that stands before an action or at its end
pub stops_acting : (s : Strand) → IsActing s → IsStopped s
stops_acting s h = go (stack_of s) h
  where
    go : (fs : List Frame) → is_first_action (top fs) ≡ true → stops_at (top fs) ≡ true
    go [] e = refl
    go (f ∷ rest) e = e

pub ended : (s : Strand) → stack_of s ≡ [] → left_of s ≡ Finished (run_of s)
unfolding rest_of
ended s e = ap (λ fs. rest_of (side_of s.on_host) fs s.loops.items s.number (run_of s)) e
