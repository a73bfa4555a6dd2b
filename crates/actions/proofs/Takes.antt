-- A part without an action is done.
use Rattle.std.proofs.Common.{◌≡◌, ℕ, zero, suc, ◌+◌, ◌*◌, ◌<◌, ◌∷◌, ◌++◌, [], List, Bool, true, false, not, ◌==◌, true≢false, Bor, Vec, Global, refl, ap, sym, ◌∙◌, subst, slice_index, ◌≤◌, get_or, ◌-◌, take, drop, length, arith, take_all}
use Rattle.base.specs.declared.tree.Expr.{Expr}
use Rattle.base.specs.declared.tree.Source.{Source}
use Rattle.base.specs.declared.tree.Stmt.{Stmt}
use Rattle.base.specs.declared.item.Cell.{Cell}
use Rattle.base.specs.declared.item.MapItem.{MapItem}
use Rattle.base.specs.declared.tree.ArrayId.{ArrayId}
use Rattle.base.specs.declared.tree.ScalarId.{ScalarId}
use Rattle.base.specs.declared.tree.BinaryOp.{BinaryOp}
use Rattle.base.specs.declared.tree.CombineOp.{CombineOp}
use Rattle.base.specs.Value.{flag, is_zero}
use Rattle.base.specs.Meaning.{Run, set_scalar}
use Rattle.fine_machine.specs.Left.{Left, Request, CopyIn, CopyOut, each_left, entry_left, exit_left, cells_left, expr_left, list_left, stmt_left, turns_left}
use Rattle.actions.proofs.Lasts.{front_more}
use Rattle.actions.specs.declared.strand.Strand.{Strand}
use Rattle.actions.specs.declared.frame.Frame.{Frame}
use Rattle.actions.specs.declared.frame.Frame.TheVariants as frame
use Rattle.actions.specs.declared.stack.Frames.{Frames}
use Rattle.actions.specs.declared.maps.Maps.{Maps}
use Rattle.actions.specs.declared.turns.Cells.{Cells}
use Rattle.actions.specs.declared.turns.Turns.{Turns}
use Rattle.actions.specs.Rest.{frames_of, front_of, rest_of}
use Rattle.actions.specs.Weight.{expr_weight, frame_weight, list_weight, weight}
use Rattle.actions.specs.Strand.{BeginsAt, BeginsSource, BeginsStmt, Takes, TakesRest, TakesRight, TakesTurns, is_action, is_positive, is_some_left, left_of, left_with, run_of, side_of, stack_of}

-- with another number at hand
abbrev pub at_number : Strand → ℕ → Strand
at_number c n = record c { number = n }

-- a part that does nothing but to leave this number
pub takes_number : (f g : Frame) (c : Strand) (n m : ℕ) → f ≡ g → n ≡ m →
    left_with (g ∷ stack_of c) c ≡ left_with (stack_of c) (at_number c m) → 0 < frame_weight g →
    Takes f c (at_number c n)
takes_number f g c n m is n_is left heavy =
    subst (λ x. Takes x c (at_number c n)) (sym is) (record {
      left = ap (λ x. left_with (stack_of c) (at_number c x)) n_is ∙ sym left;
      weight = grind (arith, heavy);
    })

-- a part that begins a source
pub takes_subscript : (f : Frame) (a : ArrayId) (v : Bor Source) (c new : Strand) → f ≡ frame.Subscript a v →
    BeginsSource v.now (frame.Store a c.number) c new → Takes f c new
unfolding rest_of
takes_subscript f a v c new is b =
    subst (λ x. Takes x c new) (sym is) (record { left = b.left; weight = grind (arith, b.weight) })

-- at 0 the first, and else the second
at_zero : (n : ℕ) (x y : Left) → n ≡ 0 → elim n [ zero ↦ x | suc m ↦ y ] ≡ x
at_zero zero x y e = refl
at_zero (suc m) x y e = absurd (omega (arith, e))

past_zero : (n : ℕ) (x y : Left) → ((n ≡ 0) → ⊥) → elim n [ zero ↦ x | suc m ↦ y ] ≡ y
past_zero zero x y some = absurd (some refl)
past_zero (suc m) x y some = refl

-- what `&&`, or `||`, leaves after its left operand
and_left : Strand → Expr → Left
and_left c e = expr_left e (side_of c.on_host) c.loops.items (run_of c).scalars
    (λ n. rest_of (side_of c.on_host) (stack_of c) c.loops.items (flag (not (is_zero n))) (run_of c))

twice_not : (b : Bool) → not (not b) ≡ b
twice_not true = refl
twice_not false = refl

takes_right : (f g : Frame) (e : Expr) (c new : Strand) (b : Bool) (value : ℕ) → f ≡ g →
    (b ≡ true → left_with (g ∷ stack_of c) c ≡ left_with (stack_of c) (at_number c value)) →
    (b ≡ false → left_with (g ∷ stack_of c) c ≡ and_left c e) →
    frame_weight g ≡ 2 + expr_weight e → TakesRight b value e c new → Takes f c new
unfolding rest_of and_left
takes_right f g e c new true value is closed opened heavy same =
    subst (λ x. Takes f c x) (sym same)
    (subst (λ x. Takes x c (at_number c value)) (sym is) (record {
      left = sym (closed refl);
      weight = grind (arith, heavy);
    }))
takes_right f g e c new false value is closed opened heavy b =
    subst (λ x. Takes x c new) (sym is) (record {
      left = b.left ∙ sym (opened refl);
      weight = grind (arith, b.weight, heavy);
    })

is_nought : (n : ℕ) (b : Bool) → b ≡ (n == 0) → b ≡ true → n ≡ 0
is_nought zero b is holds = refl
is_nought (suc m) b is holds = grind (arith, is, holds)

no_nought : (n : ℕ) (b : Bool) → b ≡ (n == 0) → b ≡ false → (n ≡ 0) → ⊥
no_nought zero b is fails e = true≢false (sym is ∙ fails)
no_nought (suc m) b is fails e = omega (arith, e)

pub takes_and : (f : Frame) (e : Bor Expr) (c new : Strand) (b : Bool) → f ≡ frame.AndRight e → b ≡ (c.number == 0) →
    TakesRight b 0 e.now c new → Takes f c new
unfolding rest_of and_left
takes_and f e c new b is b_is t =
    takes_right f (frame.AndRight e) e.now c new b 0 is
    (λ holds. at_zero c.number _ _ (is_nought c.number b b_is holds))
    (λ fails. past_zero c.number _ _ (no_nought c.number b b_is fails)) refl t

pub takes_or : (f : Frame) (e : Bor Expr) (c new : Strand) (b : Bool) → f ≡ frame.OrRight e → b ≡ not (c.number == 0) →
    TakesRight b 1 e.now c new → Takes f c new
unfolding rest_of and_left
takes_or f e c new b is b_is t =
    takes_right f (frame.OrRight e) e.now c new b 1 is
    (λ holds. past_zero c.number _ _ (no_nought c.number (not b) (ap not b_is ∙ twice_not (c.number == 0)) (ap not holds)))
    (λ fails. at_zero c.number _ _ (is_nought c.number (not b) (ap not b_is ∙ twice_not (c.number == 0)) (ap not fails))) refl t

pub takes_right_of : (f : Frame) (op : BinaryOp) (e : Bor Expr) (c new : Strand) → f ≡ frame.Right op e →
    BeginsAt e.now (frame.Both op c.number) c new → Takes f c new
unfolding rest_of
takes_right_of f op e c new is b =
    subst (λ x. Takes x c new) (sym is) (record { left = b.left; weight = grind (arith, b.weight) })

pub takes_place : (f : Frame) (op : CombineOp) (a : ArrayId) (e : Bor Expr) (c new : Strand) → f ≡ frame.Place op a e →
    BeginsAt e.now (frame.Combine op a c.number) c new → Takes f c new
unfolding rest_of
takes_place f op a e c new is b =
    subst (λ x. Takes x c new) (sym is) (record { left = b.left; weight = grind (arith, b.weight) })

-- a scalar has a number
pub takes_assign : (f : Frame) (x : ScalarId) (c : Strand) (scalars : List ℕ) → f ≡ frame.Assign x →
    slice_index scalars ≡ set_scalar x.0 c.number (slice_index c.scalars) →
    Takes f c (record c { number = 0; scalars = scalars })
unfolding rest_of
takes_assign f x c scalars is set =
    subst (λ g. Takes g c (record c { number = 0; scalars = scalars })) (sym is) (record {
      left = ap (λ v. rest_of (side_of c.on_host) (stack_of c) c.loops.items 0 (record (run_of c) { scalars = v })) set;
      weight = omega arith;
    })

pub takes_print : (f : Frame) (c : Strand) (out : Vec ℕ Global) → f ≡ frame.Print →
    out.items ≡ c.printed.items ++ c.number ∷ [] → Takes f c (record c { number = 0; printed = out })
unfolding rest_of
takes_print f c out is more =
    subst (λ g. Takes g c (record c { number = 0; printed = out })) (sym is) (record {
      left = ap (λ v. rest_of (side_of c.on_host) (stack_of c) c.loops.items 0 (record (run_of c) { printed = v })) more;
      weight = omega arith;
    })

pub takes_choose : (f : Frame) (first second all : Bor (List Stmt)) (c : Strand) (frames : Frames) → f ≡ frame.Choose first second →
    (c.number ≡ 0 → all ≡ second) → ((c.number ≡ 0 → ⊥) → all ≡ first) →
    frames_of frames ≡ frame.Rest all ∷ stack_of c → Takes f c (record c { frames = frames })
unfolding rest_of weight
takes_choose f first second all c frames is at past frames_is = chosen c.number refl
  where
    k : Run → Left
    k t = rest_of (side_of c.on_host) (stack_of c) c.loops.items 0 t

    begun : (n : ℕ) → left_of (record c { frames = frames }) ≡ list_left all.now (side_of c.on_host) c.loops.items (run_of c) k
    begun n = ap (λ fs. rest_of (side_of c.on_host) fs c.loops.items c.number (run_of c)) frames_is

    chosen : (n : ℕ) → c.number ≡ n → Takes f c (record c { frames = frames })
    chosen zero e =
        subst (λ g. Takes g c (record c { frames = frames })) (sym is) (record {
          left =
              begun 0 ∙ ap (λ xs. list_left xs.now (side_of c.on_host) c.loops.items (run_of c) k) (at e)
              ∙ sym (at_zero c.number _ _ e);
          weight = grind (arith, ap weight frames_is, ap (λ xs. list_weight xs.now) (at e));
        })
    chosen (suc m) e =
        let some = λ (z : c.number ≡ 0). absurd (omega (arith, sym z ∙ e)) in
        subst (λ g. Takes g c (record c { frames = frames })) (sym is) (record {
          left =
              begun 0 ∙ ap (λ xs. list_left xs.now (side_of c.on_host) c.loops.items (run_of c) k) (past some)
              ∙ sym (past_zero c.number _ _ some);
          weight = grind (arith, ap weight frames_is, ap (λ xs. list_weight xs.now) (past some));
        })

maps_left : (m : MapItem → (Unit {0} → Left) → Left) (items : List MapItem) (k : Unit {0} → Left) →
    is_some_left items ≡ false → each_left m items k ≡ k tt
maps_left m [] k none = refl
maps_left m (item ∷ rest) k none = absurd (true≢false none)

none_left : (ask : Cell → Request) (a : ArrayId) (first n : ℕ) (k : Unit {0} → Left) → is_positive n ≡ false →
    cells_left ask a first n k ≡ k tt
none_left ask a first zero k none = refl
none_left ask a first (suc n) k none = absurd (true≢false none)

-- no map item is left
pub takes_entries : (f : Frame) (maps : Maps) (c : Strand) → f ≡ frame.Entries maps → is_action f ≡ false →
    Takes f c (at_number c 0)
unfolding rest_of
takes_entries f maps c is none =
    takes_number f (frame.Entries maps) c 0 0 is refl
    (maps_left entry_left maps.items.now _ (sym (ap is_action is) ∙ none)) (omega arith)

pub takes_exits : (f : Frame) (maps : Maps) (c : Strand) → f ≡ frame.Exits maps → is_action f ≡ false →
    Takes f c (at_number c 0)
unfolding rest_of
takes_exits f maps c is none =
    takes_number f (frame.Exits maps) c 0 0 is refl
    (maps_left exit_left maps.items.now _ (sym (ap is_action is) ∙ none)) (omega arith)

-- no cell is left
pub takes_copy_in : (f : Frame) (cells : Cells) (c : Strand) → f ≡ frame.CopyIn cells → is_action f ≡ false →
    Takes f c (at_number c 0)
unfolding rest_of
takes_copy_in f cells c is none =
    takes_number f (frame.CopyIn cells) c 0 0 is refl
    (none_left CopyIn cells.array cells.first cells.count _ (sym (ap is_action is) ∙ none)) (omega arith)

pub takes_copy_out : (f : Frame) (cells : Cells) (c : Strand) → f ≡ frame.CopyOut cells → is_action f ≡ false →
    Takes f c (at_number c 0)
unfolding rest_of
takes_copy_out f cells c is none =
    takes_number f (frame.CopyOut cells) c 0 0 is refl
    (none_left CopyOut cells.array cells.first cells.count _ (sym (ap is_action is) ∙ none)) (omega arith)

-- no statement is left
pub takes_no_rest : (all : List Stmt) (c : Strand) → length all < 1 → TakesRest all c (at_number c 0)
unfolding rest_of
takes_no_rest all c few xs is =
    takes_number (frame.Rest xs) (frame.Rest xs) c 0 0 refl refl
    (ap (λ ys. list_left ys (side_of c.on_host) c.loops.items (run_of c)
    (λ t. rest_of (side_of c.on_host) (stack_of c) c.loops.items 0 t)) is
    ∙ none all few) (omega arith)
  where
    none : (ys : List Stmt) → length ys < 1 → list_left ys (side_of c.on_host) c.loops.items (run_of c)
        (λ t. rest_of (side_of c.on_host) (stack_of c) c.loops.items 0 t) ≡ left_with (stack_of c) (at_number c 0)
    none [] short = refl
    none (y ∷ ys) short = absurd (omega (arith, short))

-- the first of some statements is begun
pub takes_rest : (all : List Stmt) (first : Stmt) (rest : Bor (List Stmt)) (c mid new : Strand) (frames : Frames) →
    all ≡ first ∷ rest.now → mid ≡ record c { frames = frames } → frames_of frames ≡ frame.Rest rest ∷ stack_of c →
    BeginsStmt first mid new → TakesRest all c new
unfolding rest_of weight
takes_rest all first rest c mid new frames all_is mid_is frames_is b xs is =
    let side = side_of c.on_host in
    let b' = subst (λ m. BeginsStmt first m new) mid_is b in record {
      left =
          b'.left
          ∙ ap (λ fs. stmt_left first side c.loops.items (run_of c) (λ t. rest_of side fs c.loops.items 0 t)) frames_is
          ∙ ap (λ ys. list_left ys side c.loops.items (run_of c) (λ t. rest_of side (stack_of c) c.loops.items 0 t))
          (sym (is ∙ all_is));
      weight = grind (arith, b'.weight, ap weight frames_is, ap list_weight (is ∙ all_is));
    }

-- no turn is left
pub takes_no_turn : (turns : Turns) (body : List Stmt) (c : Strand) (loops : Vec ℕ Global) → turns.left ≡ 0 →
    loops.items ≡ front_of c.loops.items → TakesTurns turns body c (record c { loops = loops; number = 0 })
unfolding rest_of weight
takes_no_turn turns body c loops none loops_is xs is =
    let side = side_of c.on_host in record {
      left =
          ap (λ ls. rest_of side (stack_of c) ls 0 (run_of c)) loops_is
          ∙ sym (ap (λ n. turns_left n turns.next turns.step (λ v. list_left xs.now side (front_of c.loops.items ++ v ∷ []))
          (run_of c) (λ t. rest_of side (stack_of c) (front_of c.loops.items) 0 t)) none);
      weight = omega arith;
    }

-- the next turn is begun
pub takes_turn : (turns later : Turns) (body : Bor (List Stmt)) (c : Strand) (frames : Frames) (loops : Vec ℕ Global) →
    later.left + 1 ≡ turns.left → later.next ≡ turns.next + turns.step → later.step ≡ turns.step →
    loops.items ≡ front_of c.loops.items ++ turns.next ∷ [] →
    frames_of frames ≡ frame.Rest body ∷ (frame.Turns later body ∷ stack_of c) →
    TakesTurns turns body.now c (record c { frames = frames; loops = loops })
unfolding rest_of weight
takes_turn turns later body c frames loops left_is next_is step_is loops_is frames_is xs is =
    let side = side_of c.on_host in
    let front = front_of c.loops.items in
    let k = λ (t : Run) (ls : List ℕ). rest_of side (stack_of c) ls 0 t in
    let whole = λ (n v step : ℕ) (ys : List Stmt) (ls : List ℕ) (s : Run).
    turns_left n v step (λ v. list_left ys side (ls ++ v ∷ [])) s (λ t. k t ls) in record {
      left =
          ap (λ fs. rest_of side fs loops.items c.number (run_of c)) frames_is
          ∙ ap (λ ls. list_left body.now side ls (run_of c)
          (λ t. whole later.left later.next later.step body.now (front_of ls) t)) loops_is
          ∙ (λ i. list_left body.now side (front ++ turns.next ∷ []) (run_of c)
          (λ t. whole later.left (next_is i) (step_is i) body.now (front_more front turns.next i) t))
          ∙ ap (λ n. whole n turns.next turns.step body.now front (run_of c)) (suc_is later.left ∙ left_is)
          ∙ ap (λ ys. whole turns.left turns.next turns.step ys front (run_of c)) (sym is);
      weight =
          grind (
            arith,
            ap weight frames_is,
            ap (λ n. n * (2 + list_weight body.now)) (sym left_is) ∙ more later.left (2 + list_weight body.now),
            ap (λ ys. turns.left * (2 + list_weight ys)) is,
          );
    }
  where
    suc_is : (n : ℕ) → suc n ≡ n + 1
    suc_is n = omega arith

    more : (n m : ℕ) → (n + 1) * m ≡ n * m + m
    more n m = omega arith

pub first_of : (xs : List Stmt) (x : Stmt) → 1 ≤ length xs → x ≡ get_or xs 0 x → xs ≡ x ∷ take (length xs - 1) (drop 1 xs)
first_of [] x some is = absurd (omega (arith, some))
first_of (y ∷ ys) x some is =
    ap (λ z. z ∷ ys) (sym is) ∙ ap (λ zs. x ∷ zs) (sym (take_all (length (y ∷ ys) - 1) ys (omega arith)))
