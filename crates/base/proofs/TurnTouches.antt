-- What the turns of a region touch is what the region touches, and where two turns meet one of them writes.
use Rattle.std.proofs.Common.{◌≡◌, ℕ, zero, suc, ◌+◌, Bool, true, false, List, [], ◌∷◌, ◌++◌, Option, Some, None, refl, sym, ap, subst, ◌∙◌, append_assoc, ⊎_elim, ◌⊎◌, inl, inr}
use Rattle.std.specs.Prelude.{flat_map, not, ◌&&◌, ◌||◌}
use Rattle.std.specs.List.{list_any}
use Rattle.std.proofs.lemmas.Bool.{false≢true, and_parts, or_cases, or_left, or_right}
use Rattle.std.proofs.lemmas.List.{append-nil}
use Rattle.base.specs.declared.item.Cell.{Cell}
use Rattle.base.specs.declared.tree.Bounds.{Bounds}
use Rattle.base.specs.declared.tree.Region.{Region}
use Rattle.base.specs.declared.tree.Stmt.{Stmt, Row_of-Stmt, end_of-Stmt, more_of-Stmt}
use Rattle.base.specs.declared.tree.Stmt.TheVariants.{Declare, Assign, Store, Combine, Print, Block', Loop', If'}
use Rattle.base.specs.Meaning.{turns_of}
use Rattle.base.specs.Footprint.{Touch, turns_touch, stmt_touches, row_touches, has_cell, reads, writes}
use Rattle.base.specs.Items.{Work}
use Rattle.base.specs.Actions.{touches_in}
use Rattle.base.specs.Turns.{Turn, listed, loop_of, only_loop, each_turn, turns_at, turns_in_work, turn_touches, gives_scalar, commute_at, crosses, turns_meet}

-- what statements touch one after the other
abbrev list_touches : List Stmt → List ℕ → List Touch
list_touches body loops = flat_map (λ s. stmt_touches s loops true) body

listed_touches : {m : _} (row : Row_of-Stmt m) (loops : List ℕ) →
    list_touches (listed row) loops ≡ row_touches row loops true
listed_touches end_of-Stmt loops = refl
listed_touches (more_of-Stmt first rest) loops =
    ap (λ (xs : List Touch). stmt_touches first loops true ++ xs) (listed_touches rest loops)

flat_map_append : {A B : Type 0} (f : A → List B) (xs ys : List A) →
    flat_map f (xs ++ ys) ≡ flat_map f xs ++ flat_map f ys
flat_map_append f [] ys = refl
flat_map_append f (x ∷ xs) ys =
    ap (λ u. f x ++ u) (flat_map_append f xs ys) ∙ sym (append_assoc (f x) (flat_map f xs) (flat_map f ys))

each_touches : (n v step : ℕ) (turns : ℕ → List Turn) (touches : ℕ → List Touch) →
    ((v : ℕ) → flat_map turn_touches (turns v) ≡ touches v) →
    flat_map turn_touches (each_turn n v step turns) ≡ turns_touch n v step touches
each_touches zero v step turns touches h = refl
each_touches (suc n) v step turns touches h =
    flat_map_append turn_touches (turns v) (each_turn n (v + step) step turns)
    ∙ ap (λ (xs : List Touch). xs ++ flat_map turn_touches (each_turn n (v + step) step turns)) (h v)
    ∙ ap (λ (xs : List Touch). touches v ++ xs) (each_touches n (v + step) step turns touches h)

-- the turns of the d + 1 outermost loops of one statement, where those of d loops of any body are known
looped_touches : (d : ℕ) (loops : List ℕ) →
    ((body : List Stmt) (loops : List ℕ) → flat_map turn_touches (turns_at d body loops) ≡ list_touches body loops) →
    (s : Stmt) → flat_map turn_touches (turns_at (suc d) (s ∷ []) loops) ≡ list_touches (s ∷ []) loops
looped_touches d loops ih (Loop' b shape all) =
    each_touches (turns_of b) b.first b.step (λ v. turns_at d (listed all) (loops ++ v ∷ []))
    (λ v. row_touches all (loops ++ v ∷ []) true)
    (λ v. ih (listed all) (loops ++ v ∷ []) ∙ listed_touches all (loops ++ v ∷ []))
    ∙ sym (append-nil (stmt_touches (Loop' b shape all) loops true))
looped_touches d loops ih (Declare x v) = append-nil (list_touches (Declare x v ∷ []) loops)
looped_touches d loops ih (Assign x v) = append-nil (list_touches (Assign x v ∷ []) loops)
looped_touches d loops ih (Store a place i v) = append-nil (list_touches (Store a place i v ∷ []) loops)
looped_touches d loops ih (Combine op a place i v) = append-nil (list_touches (Combine op a place i v ∷ []) loops)
looped_touches d loops ih (Print i) = append-nil (list_touches (Print i ∷ []) loops)
looped_touches d loops ih (Block' shape all) = append-nil (list_touches (Block' shape all ∷ []) loops)
looped_touches d loops ih (If' c shape all shape' all') =
    append-nil (list_touches (If' c shape all shape' all' ∷ []) loops)

-- what the turns touch one after the other is what the statements touch
pub turns_touch_all : (d : ℕ) (body : List Stmt) (loops : List ℕ) →
    flat_map turn_touches (turns_at d body loops) ≡ list_touches body loops
turns_touch_all zero body loops = append-nil (list_touches body loops)
turns_touch_all (suc d) [] loops = refl
turns_touch_all (suc d) (s ∷ []) loops = looped_touches d loops (turns_touch_all d) s
turns_touch_all (suc d) (s ∷ t ∷ rest) loops = append-nil (list_touches (s ∷ t ∷ rest) loops)

-- the same of an item's region
pub work_touches : (w : Work) → flat_map turn_touches (turns_in_work w) ≡ touches_in w
work_touches w = go w.region refl
  where
    go : (o : Option Region) → w.region ≡ o → flat_map turn_touches (turns_in_work w) ≡ touches_in w
    go None e = rw e refl
    go (Some r) e = rw e (turns_touch_all r.depth r.body.items w.loops)

-- ---- where turns meet, one of them writes

any_append : {A : Type 0} (p : A → Bool) (xs ys : List A) → list_any p (xs ++ ys) ≡ (list_any p xs || list_any p ys)
any_append p [] ys = refl
any_append p (x ∷ xs) ys = either (p x) (list_any p (xs ++ ys)) (list_any p xs) (list_any p ys) (any_append p xs ys)
  where
    either : (b u v w : Bool) → u ≡ (v || w) → (b || u) ≡ ((b || v) || w)
    either true u v w e = refl
    either false u v w e = e

abbrev all_touches : List Turn → List Touch
all_touches turns = flat_map turn_touches turns

first_writes : (s : Turn) (rest : List Turn) (c : Cell) → writes (turn_touches s) c ≡ true →
    writes (all_touches (s ∷ rest)) c ≡ true
first_writes s rest c h =
    any_append (λ t. t.is_write && has_cell c t) (turn_touches s) (all_touches rest)
    ∙ or_left (writes (turn_touches s) c) (writes (all_touches rest) c) h

rest_writes : (s : Turn) (rest : List Turn) (c : Cell) → writes (all_touches rest) c ≡ true →
    writes (all_touches (s ∷ rest)) c ≡ true
rest_writes s rest c h =
    any_append (λ t. t.is_write && has_cell c t) (turn_touches s) (all_touches rest)
    ∙ or_right (writes (turn_touches s) c) (writes (all_touches rest) c) h

crossed : (s t : Turn) (c : Cell) → crosses s t c ≡ true → writes (turn_touches s) c ≡ true
crossed s t c h =
    (and_parts (writes (turn_touches s) c)
    (((reads (turn_touches t) c || writes (turn_touches t) c) && not
    (commute_at (turn_touches s) (turn_touches t) c)) || gives_scalar t s) h).0

pair_writes : (s : Turn) (rest : List Turn) (c : Cell) →
    list_any (λ t. crosses s t c || crosses t s c) rest ≡ true →
    (writes (turn_touches s) c ≡ true) ⊎ (writes (all_touches rest) c ≡ true)
pair_writes s [] c h = absurd (false≢true h)
pair_writes s (t ∷ rest) c h =
    ⊎_elim
    (λ e. ⊎_elim (λ f. inl (crossed s t c f)) (λ f. inr (first_writes t rest c (crossed t s c f)))
    (or_cases (crosses s t c) (crosses t s c) e))
    (λ e. ⊎_elim (λ f. inl f) (λ f. inr (rest_writes t rest c f)) (pair_writes s rest c e))
    (or_cases (crosses s t c || crosses t s c) (list_any (λ t. crosses s t c || crosses t s c) rest) h)

pub meeting_writes : (turns : List Turn) (c : Cell) → turns_meet turns c ≡ true → writes (all_touches turns) c ≡ true
meeting_writes [] c h = absurd (false≢true h)
meeting_writes (s ∷ rest) c h =
    ⊎_elim
    (λ e. ⊎_elim (λ f. first_writes s rest c f) (λ f. rest_writes s rest c f) (pair_writes s rest c e))
    (λ e. rest_writes s rest c (meeting_writes rest c e))
    (or_cases (list_any (λ t. crosses s t c || crosses t s c) rest) (turns_meet rest c) h)
