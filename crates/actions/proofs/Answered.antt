-- What is left after an action.
use Rattle.std.proofs.Common.{◌≡◌, ℕ, zero, suc, ◌+◌, ◌-◌, ◌≤◌, ◌∷◌, [], List, Some, Bool, true, false, true≢false, refl, ap, sym, ◌∙◌, subst, slice_get, take, drop, length, get_or, arith, take_all}
use Rattle.base.specs.declared.item.Cell.{Cell}
use Rattle.base.specs.declared.item.MapItem.{MapItem}
use Rattle.base.specs.declared.item.MapKind.TheVariants.{To}
use Rattle.base.specs.declared.item.Section.{Section}
use Rattle.base.specs.declared.tree.ArrayId.{ArrayId}
use Rattle.base.specs.declared.tree.CombineOp.{CombineOp}
use Rattle.fine_machine.specs.Left.{Left, Asks, Finished, Answer, Side, Request, each_left, entry_left, exit_left, cells_left, left_if, section_left}
use Rattle.fine_machine.specs.Left as left
use Rattle.actions.specs.declared.strand.Strand.{Strand}
use Rattle.actions.specs.declared.frame.Frame.{Frame}
use Rattle.actions.specs.declared.frame.Frame.TheVariants as frame
use Rattle.actions.specs.declared.stack.Frames.{Frames}
use Rattle.actions.specs.declared.maps.Held.{Held}
use Rattle.actions.specs.declared.maps.Maps.{Maps}
use Rattle.actions.specs.declared.turns.Cells.{Cells}
use Rattle.present.specs.Table.{AreSections}
use Rattle.actions.specs.Rest.{frames_of, rest_of, top}
use Rattle.actions.specs.Strand.{AnswersEntry, AnswersExit, CopiesBefore, IsAnswered, IsStopped, Splits, is_action, is_some_left, left_of, left_with, run_of, side_of, stack_of, stops_at}

after_of : Left → Answer → Left
after_of (Finished t) r = Finished t
after_of (Asks request k) r = k r

-- what follows an action is determined
pub answered : (q : Request) (k : Answer → Left) (r : Answer) (new : Left) → new ≡ k r → IsAnswered (Asks q k) r new
unfolding after_of
answered q k r new is request k' same = is ∙ ap (λ l. after_of l r) same

copies_before : (ask : Cell → Request) (copies : Bool) (cells : Cells) (s : Section) (c : Strand) (frames : Frames) (f : Frame) →
    copies ≡ true → cells.array ≡ s.array → cells.first ≡ s.first → cells.count ≡ s.length →
    frames_of frames ≡ f ∷ stack_of c →
    left_with (f ∷ stack_of c) c
    ≡ cells_left ask cells.array cells.first cells.count
    (λ u. rest_of (side_of c.on_host) (stack_of c) c.loops.items 0 (run_of c)) →
    c.number ≡ 0 → CopiesBefore ask copies s c (record c { frames = frames })
copies_before ask copies cells s c frames f yes_is array_is first_is count_is frames_is left number_is =
    ap (λ fs. left_with fs c) frames_is ∙ left
    ∙ (λ i. cells_left ask (array_is i) (first_is i) (count_is i)
    (λ u. rest_of (side_of c.on_host) (stack_of c) c.loops.items (sym number_is i) (run_of c)))
    ∙ ap (λ b. left_if b (section_left ask s) (λ u. left_of c)) (sym yes_is)

pub copies_in : (copies : Bool) (cells : Cells) (s : Section) (c : Strand) (frames : Frames) →
    copies ≡ true → cells.array ≡ s.array → cells.first ≡ s.first → cells.count ≡ s.length →
    frames_of frames ≡ frame.CopyIn cells ∷ stack_of c → c.number ≡ 0 →
    CopiesBefore left.CopyIn copies s c (record c { frames = frames })
unfolding rest_of
copies_in copies cells s c frames yes_is array_is first_is count_is frames_is number_is =
    copies_before left.CopyIn copies cells s c frames (frame.CopyIn cells) yes_is array_is first_is count_is frames_is refl number_is

pub copies_out : (copies : Bool) (cells : Cells) (s : Section) (c : Strand) (frames : Frames) →
    copies ≡ true → cells.array ≡ s.array → cells.first ≡ s.first → cells.count ≡ s.length →
    frames_of frames ≡ frame.CopyOut cells ∷ stack_of c → c.number ≡ 0 →
    CopiesBefore left.CopyOut copies s c (record c { frames = frames })
unfolding rest_of
copies_out copies cells s c frames yes_is array_is first_is count_is frames_is number_is =
    copies_before left.CopyOut copies cells s c frames (frame.CopyOut cells) yes_is array_is first_is count_is frames_is refl number_is

pub copies_none : (ask : Cell → Request) (copies : Bool) (s : Section) (c : Strand) → copies ≡ false → CopiesBefore ask copies s c c
copies_none ask copies s c no_is = ap (λ b. left_if b (section_left ask s) (λ u. left_of c)) (sym no_is)

-- the first entry was counted: the others come after its copies
pub answers_entry : (maps : Maps) (copies : Bool) (item : MapItem) (rest : Maps) (c mid new : Strand) (frames : Frames) →
    maps.items.now ≡ item ∷ rest.items.now → mid ≡ record c { frames = frames } →
    frames_of frames ≡ frame.Entries rest ∷ stack_of c → CopiesBefore left.CopyIn copies item.section mid new →
    AnswersEntry maps copies c new
unfolding rest_of
answers_entry maps copies item rest c mid new frames maps_is mid_is frames_is b n removes some =
    let k = λ (u : Unit {0}). rest_of (side_of c.on_host) (stack_of c) c.loops.items 0 (run_of c) in
    subst (λ xs. IsAnswered (each_left entry_left xs k) (record { number = n; copies = copies; removes = removes }) (left_of new))
    (sym maps_is)
    (answered _ _ _ (left_of new)
    (b ∙ ap (λ l. left_if copies (section_left left.CopyIn item.section) (λ u. l))
    (ap left_of mid_is ∙ ap (λ fs. left_with fs c) frames_is)))

-- the first exit was counted: its copies, its removal, and then the others
pub answers_exit : (maps : Maps) (copies removes : Bool) (item : MapItem) (rest : Maps) (c mid new : Strand) (frames : List Frame) →
    maps.items.now ≡ item ∷ rest.items.now →
    left_of mid ≡ left_if removes (λ l. Asks (left.Remove item.section) (λ r. l tt))
    (λ u. left_with (frame.Exits rest ∷ stack_of c) c) →
    CopiesBefore left.CopyOut copies item.section mid new →
    AnswersExit maps copies removes c new
unfolding rest_of
answers_exit maps copies removes item rest c mid new frames maps_is mid_is b n some =
    let k = λ (u : Unit {0}). rest_of (side_of c.on_host) (stack_of c) c.loops.items 0 (run_of c) in
    subst (λ xs. IsAnswered (each_left exit_left xs k) (record { number = n; copies = copies; removes = removes }) (left_of new))
    (sym maps_is)
    (answered _ _ _ (left_of new)
    (b ∙ ap (λ l. left_if copies (section_left left.CopyOut item.section) (λ u. l)) mid_is))

-- the first of some map items
pub first_of : (xs : List MapItem) (d : MapItem) → 1 ≤ length xs → xs ≡ get_or xs 0 d ∷ take (length xs - 1) (drop 1 xs)
first_of [] d some = absurd (omega (arith, some))
first_of (y ∷ ys) d some = ap (λ zs. y ∷ zs) (sym (take_all (length (y ∷ ys) - 1) ys (omega arith)))

abbrev pub any_item : MapItem
any_item = record {
  kind = To;
  always = false;
  present = false;
  section = record { array = record { 0 = 0 }; first = 0; length = 0 };
  line = 0;
  column = 0;
}

one_more : (k : ℕ) → k + 1 ≡ suc k
one_more k = omega arith

pub tail_sections : (xs ys : List MapItem) (x : MapItem) → xs ≡ x ∷ ys → AreSections xs → AreSections ys
tail_sections xs ys x is sections k item at =
    subst AreSections is sections (k + 1) item (past k at)
  where
    past : (k : ℕ) → slice_get ys k ≡ Some item → slice_get (x ∷ ys) (k + 1) ≡ Some item
    past k at = ap (λ n. slice_get (x ∷ ys) n) (one_more k) ∙ at

pub splits : (maps rest : Maps) (item : MapItem) → maps.items.now ≡ item ∷ rest.items.now → Splits maps item rest
splits maps rest item is = record {
  items = is;
  section = subst AreSections is maps.sections 0 item refl;
}

-- the machine before and after: a part has left
pub at_part : (f : Frame) (c new : Strand) (rest : List Frame) (r : Answer) → stack_of c ≡ f ∷ rest →
    IsAnswered (left_with (f ∷ rest) c) r (left_of new) → IsAnswered (left_of c) r (left_of new)
at_part f c new rest r is a = subst (λ fs. IsAnswered (left_with fs c) r (left_of new)) (sym is) a

pub acts_first : (f : Frame) (c : Strand) (rest : List Frame) → stack_of c ≡ f ∷ rest → IsStopped c → is_action f ≡ true
acts_first f c rest is s = sym (ap (λ fs. stops_at (top fs)) is) ∙ s

-- a number was loaded
pub answers_load : (a : ArrayId) (c : Strand) (frames : Frames) (r : Answer) →
    IsAnswered (left_with (frame.Load a ∷ frames_of frames) c) r (left_of (record c { frames = frames; number = r.number }))
unfolding rest_of
answers_load a c frames r = answered _ _ r _ refl

cells_answered : (ask : Cell → Request) (a : ArrayId) (first n m : ℕ) (k : Unit {0} → Left) (r : Answer) → m + 1 ≡ n →
    IsAnswered (cells_left ask a first n k) r (cells_left ask a (first + 1) m k)
cells_answered ask a first zero m k r is = absurd (omega (arith, is))
cells_answered ask a first (suc n) m k r is =
    answered _ _ r _ (ap (λ x. cells_left ask a (first + 1) x k) (grind (arith, is)))

-- the first of some cells was copied
pub answers_copy_in : (cells later : Cells) (c : Strand) (rest : List Frame) (frames : Frames) (r : Answer) →
    later.array ≡ cells.array → later.first ≡ cells.first + 1 → later.count + 1 ≡ cells.count →
    frames_of frames ≡ frame.CopyIn later ∷ rest →
    IsAnswered (left_with (frame.CopyIn cells ∷ rest) c) r (left_of (record c { frames = frames; number = 0 }))
unfolding rest_of
answers_copy_in cells later c rest frames r array_is first_is count_is frames_is =
    let k = λ (u : Unit {0}). rest_of (side_of c.on_host) rest c.loops.items 0 (run_of c) in
    subst (λ l. IsAnswered (cells_left left.CopyIn cells.array cells.first cells.count k) r l)
    (sym (ap (λ fs. left_with fs (record c { number = 0 })) frames_is
    ∙ (λ i. cells_left left.CopyIn (array_is i) (first_is i) later.count k)))
    (cells_answered left.CopyIn cells.array cells.first cells.count later.count k r count_is)

pub answers_copy_out : (cells later : Cells) (c : Strand) (rest : List Frame) (frames : Frames) (r : Answer) →
    later.array ≡ cells.array → later.first ≡ cells.first + 1 → later.count + 1 ≡ cells.count →
    frames_of frames ≡ frame.CopyOut later ∷ rest →
    IsAnswered (left_with (frame.CopyOut cells ∷ rest) c) r (left_of (record c { frames = frames; number = 0 }))
unfolding rest_of
answers_copy_out cells later c rest frames r array_is first_is count_is frames_is =
    let k = λ (u : Unit {0}). rest_of (side_of c.on_host) rest c.loops.items 0 (run_of c) in
    subst (λ l. IsAnswered (cells_left left.CopyOut cells.array cells.first cells.count k) r l)
    (sym (ap (λ fs. left_with fs (record c { number = 0 })) frames_is
    ∙ (λ i. cells_left left.CopyOut (array_is i) (first_is i) later.count k)))
    (cells_answered left.CopyOut cells.array cells.first cells.count later.count k r count_is)

-- an entry, or an exit, was counted
pub answers_entries : (maps : Maps) (c new : Strand) (frames : Frames) (n : ℕ) (copies removes : Bool) →
    is_some_left maps.items.now ≡ true → AnswersEntry maps copies (record c { frames = frames; number = 0 }) new →
    IsAnswered (left_with (frame.Entries maps ∷ frames_of frames) c) (record { number = n; copies = copies; removes = removes })
    (left_of new)
unfolding rest_of
answers_entries maps c new frames n copies removes some a = a n removes some

pub answers_exits : (maps : Maps) (c new : Strand) (frames : Frames) (n : ℕ) (copies removes : Bool) →
    is_some_left maps.items.now ≡ true → AnswersExit maps copies removes (record c { frames = frames; number = 0 }) new →
    IsAnswered (left_with (frame.Exits maps ∷ frames_of frames) c) (record { number = n; copies = copies; removes = removes })
    (left_of new)
unfolding rest_of
answers_exits maps c new frames n copies removes some a = a n some

pub answers_store : (a : ArrayId) (i : ℕ) (c : Strand) (frames : Frames) (r : Answer) →
    IsAnswered (left_with (frame.Store a i ∷ frames_of frames) c) r (left_of (record c { frames = frames; number = 0 }))
unfolding rest_of
answers_store a i c frames r = answered _ _ r _ refl

pub answers_combine : (op : CombineOp) (a : ArrayId) (i : ℕ) (c : Strand) (frames : Frames) (r : Answer) →
    IsAnswered (left_with (frame.Combine op a i ∷ frames_of frames) c) r (left_of (record c { frames = frames; number = 0 }))
unfolding rest_of
answers_combine op a i c frames r = answered _ _ r _ refl

pub answers_remove : (held : Held) (c : Strand) (frames : Frames) (r : Answer) →
    IsAnswered (left_with (frame.Remove held ∷ frames_of frames) c) r (left_of (record c { frames = frames; number = 0 }))
unfolding rest_of
answers_remove held c frames r = answered _ _ r _ refl

-- nothing is left to be answered
pub answers_none : (c new : Strand) (r : Answer) → stack_of c ≡ [] → IsAnswered (left_of c) r (left_of new)
unfolding rest_of
answers_none c new r is request k same =
    absurd (true≢false (ap asks (sym same ∙ ap (λ fs. left_with fs c) is)))
  where
    asks : Left → Bool
    asks (Asks q l) = true
    asks (Finished t) = false

pub exits_next : (rest : Maps) (c : Strand) (frames : Frames) (removes : Bool) (section : Section) → removes ≡ false →
    frames_of frames ≡ frame.Exits rest ∷ stack_of c →
    left_of (record c { frames = frames })
    ≡ left_if removes (λ l. Asks (left.Remove section) (λ r. l tt)) (λ u. left_with (frame.Exits rest ∷ stack_of c) c)
exits_next rest c frames removes section no_is frames_is =
    ap (λ fs. left_with fs c) frames_is
    ∙ ap (λ b. left_if b (λ l. Asks (left.Remove section) (λ r. l tt)) (λ u. left_with (frame.Exits rest ∷ stack_of c) c))
    (sym no_is)

pub removal_next : (rest : Maps) (held : Held) (c : Strand) (frames first : Frames) (removes : Bool) → removes ≡ true →
    c.number ≡ 0 → frames_of first ≡ frame.Exits rest ∷ stack_of c → frames_of frames ≡ frame.Remove held ∷ frames_of first →
    left_of (record c { frames = frames })
    ≡ left_if removes (λ l. Asks (left.Remove held.section) (λ r. l tt)) (λ u. left_with (frame.Exits rest ∷ stack_of c) c)
unfolding rest_of
removal_next rest held c frames first removes yes_is number_is first_is frames_is =
    ap (λ fs. left_with fs c) (frames_is ∙ ap (λ fs. frame.Remove held ∷ fs) first_is)
    ∙ ap (λ b. left_if b (λ l. Asks (left.Remove held.section) (λ r. l tt)) (λ u. left_with (frame.Exits rest ∷ stack_of c) c))
    (sym yes_is)
