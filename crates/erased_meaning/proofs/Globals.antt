-- What stands before the statements of main.
use Rattle.std.proofs.Common.{◌≡◌, ℕ, ◌+◌, ◌-◌, ◌<◌, ◌≤◌, Bool, true, false, cond, List, [], ◌∷◌, ◌++◌, length, Option, Some, None, is_some, refl, sym, ap, subst, ◌∙◌, arith}
use Rattle.std.specs.Prelude.{◌||◌}
use mathlib.Core.Path.{fun_ext}
use Rattle.base.specs.declared.tree.ArrayId.{ArrayId}
use Rattle.base.specs.declared.tree.ScalarId.{ScalarId}
use Rattle.c_grammar.specs.Lexeme.{Lexeme, Uint64}
use Rattle.c_grammar.specs.Lines.{boxed_names}
use Rattle.c_grammar.specs.Terminal.{Name, Line, End}
use Rattle.c_grammar.specs.Grammar.{Plain, DeclaresGlobal, for, word, Slots, body_closing, stmts, Global, Scalar, Array, global, globals, Text, boxes_slots, main_part, slots}
use Rattle.c_grammar.specs.Rules as rules
use Rattle.c_grammar.specs.Rules.{Context, Sort, AnArray, begin, out, opened, enter, fresh_names, is_visible, max_arrays, numbered_from, sort_of, source_grammar}
use Rattle.c_grammar.specs.Texts.{KeepsRules}
use Rattle.c_expressions.specs.declared.scope.Meaning.{Meaning}
use Rattle.c_expressions.specs.declared.scope.Meaning.TheVariants as meaning
use Rattle.c_expressions.specs.Means.{Names, meaning_of}
use Rattle.c_expressions.specs.Scopes.{Boxes, as_boxes, box_of}
use Rattle.c_statements.specs.Statements.{Env, box_for, scalar_or_box, with_scalar}
use Rattle.c_read.specs.Globals.{Front, no_front, with_array, with_global, behind_globals, boxes_from, boxes_on, with_boxes, boxes_of_text, front_of_text, arrays_in}
use Rattle.erasure.specs.Plain.{plain_tree}
use Rattle.erasure.proofs.Follows.{entered, entered_append, next_in, Keeps, keeps_at, keeps_split}
use Rattle.erased_meaning.proofs.Entries.{Entry, Each, each_more}
use Rattle.erased_meaning.proofs.Boxes.{IsHeld}
use Rattle.erased_meaning.proofs.Apart.{Fits, AllFit}
use Rattle.erased_meaning.proofs.Values.{plain_meaning, plain_names}
use Rattle.erased_meaning.proofs.Envs.{plain_env}
use Rattle.erased_meaning.proofs.Parts.{IsOuter}
use Rattle.erased_meaning.proofs.Outside.{AreSafe, IsOutside}
use Rattle.erased_meaning.proofs.Contexts.{Stands, sort_is, visible_is, within, opens_block}
use Rattle.erased_meaning.proofs.Simple.{declares, flat_top}
use Rattle.erased_meaning.proofs.Safe.{stmts_known, known_within}
use Rattle.erased_meaning.proofs.Layouts.{layout_of}

-- ---- the rules' context

array_stands : (x : List ℕ) (n : Option ℕ) (c : Context) (f : Front) → Stands c f.env →
    Stands (entered c (global (Array x n))) (with_array x f).env
unfolding enter
array_stands x n c f s =
    record {
      names = ap (λ (ns : List (List ℕ × Sort)). (x, AnArray) ∷ ns) (flat_top c.frames ∙ s.names);
      boxes = s.boxes;
      inside_is = s.inside_is;
      target = s.target;
      turn = s.turn;
    }

scalar_stands : (x : List ℕ) (c : Context) (f : Front) → Stands c f.env →
    Stands (entered c (global (Scalar x))) (with_scalar x f.env)
unfolding enter
scalar_stands x c f s =
    declares x c (entered c (word Uint64 ∷ (Name x, for DeclaresGlobal) ∷ [])) f.env s refl refl refl refl refl

-- the arrays are counted
abbrev StandsAt : Context → Front → Type 0
StandsAt c f = Stands c f.env × (c.arrays ≡ f.arrays)

arrays_array : (x : List ℕ) (n : Option ℕ) (c : Context) → (entered c (global (Array x n))).arrays ≡ c.arrays + 1
unfolding enter
arrays_array x n c = refl

arrays_scalar : (x : List ℕ) (c : Context) → (entered c (global (Scalar x))).arrays ≡ c.arrays
unfolding enter
arrays_scalar x c = refl

globals_stand : (gs : List Global) (c : Context) (f : Front) → StandsAt c f →
    StandsAt (entered c (globals gs)) (behind_globals gs f)
globals_stand [] c f s = s
globals_stand (Scalar x ∷ gs) c f s =
    subst (λ (d : Context). StandsAt d (behind_globals gs (with_global (Scalar x) f)))
    (sym (entered_append c (global (Scalar x)) (globals gs)))
    (globals_stand gs (entered c (global (Scalar x))) (with_global (Scalar x) f)
    (scalar_stands x c f s.0, arrays_scalar x c ∙ s.1))
globals_stand (Array x n ∷ gs) c f s =
    subst (λ (d : Context). StandsAt d (behind_globals gs (with_global (Array x n) f)))
    (sym (entered_append c (global (Array x n)) (globals gs)))
    (globals_stand gs (entered c (global (Array x n))) (with_global (Array x n) f)
    (array_stands x n c f s.0, arrays_array x n c ∙ ap (λ (k : ℕ). k + 1) s.1))

-- the rules box what the meaning does
same_boxes : (l : List Lexeme) (c : Context) (f : Front) → StandsAt c f →
    as_boxes (numbered_from c.arrays (rules.boxes_on c (Line l))) ≡ boxes_from f.arrays (boxes_on f (Some l))
same_boxes l c f s =
    ap (λ (k : ℕ). boxes_from k (fresh_names (λ x. is_visible (sort_of c x)) (max_arrays - k) [] (boxed_names l))) s.1
    ∙ ap (λ (known : List ℕ → Bool). boxes_from f.arrays (fresh_names known (max_arrays - f.arrays) [] (boxed_names l)))
    (fun_ext (λ x. ap is_visible (sort_is c f.env x s.0) ∙ visible_is (meaning_of f.env.names x)))

boxes_stand : (b : Option (List Lexeme)) (c : Context) (f : Front) → f.env.boxes ≡ [] → StandsAt c f →
    Stands (entered c (boxes_slots b)) (with_boxes b f).env
unfolding enter
boxes_stand None c f e s =
    record {
      names = s.0.names;
      boxes = s.0.boxes ∙ e;
      inside_is = s.0.inside_is;
      target = s.0.target;
      turn = s.0.turn;
    }
boxes_stand (Some l) c f e s =
    record {
      names = s.0.names;
      boxes = same_boxes l c f s;
      inside_is = s.0.inside_is;
      target = s.0.target;
      turn = s.0.turn;
    }

-- ---- what globals declare

-- an array or a scalar that is not boxed, outside targets
abbrev IsGlobal : ℕ → ℕ → Entry → Type 0
IsGlobal arrays scalars (x, meaning.Array a) = a.0 < arrays
IsGlobal arrays scalars (x, meaning.Scalar n i) = (n.0 < scalars) × (i ≡ false)
IsGlobal arrays scalars _ = ⊥

global_more : (a b n m : ℕ) → a ≤ b → n ≤ m → (e : Entry) → IsGlobal a n e → IsGlobal b m e
global_more a b n m h k (x, meaning.Array c) g = omega (arith, h, g)
global_more a b n m h k (x, meaning.Scalar c i) g = (omega (arith, k, g.0), g.1)
global_more a b n m h k (x, meaning.Boxed c i) g = absurd g
global_more a b n m h k (x, meaning.Loop c) g = absurd g

record AreGlobals (f : Front) : Type 0 where
  boxes : f.env.boxes ≡ []
  outside : f.env.inside ≡ false
  names : Each (IsGlobal f.arrays f.env.scalars) f.env.names

not_boxed : (x : List ℕ) (env : Env) → env.boxes ≡ [] → box_for x env ≡ None
not_boxed x env e =
    ap (λ (bs : Boxes). cond (env.inside || is_some (meaning_of env.names x)) None (box_of bs x)) e
    ∙ step (env.inside || is_some (meaning_of env.names x))
  where
    step : (t : Bool) → let none : Option ArrayId = None in cond t none none ≡ none
    step true = refl
    step false = refl

with_globals : (gs : List Global) (f : Front) → AreGlobals f → AreGlobals (behind_globals gs f)
with_globals [] f g = g
with_globals (Scalar x ∷ gs) f g =
    with_globals gs (with_global (Scalar x) f) (record {
      boxes = g.boxes;
      outside = g.outside;
      names = (
        subst (λ (o : Option ArrayId). IsGlobal f.arrays (f.env.scalars + 1) (x, scalar_or_box next f.env.inside o))
            (sym (not_boxed x f.env g.boxes)) (omega arith, g.outside),
        each_more (IsGlobal f.arrays f.env.scalars) (IsGlobal f.arrays (f.env.scalars + 1)) f.env.names
            (global_more f.arrays f.arrays f.env.scalars (f.env.scalars + 1) (omega arith) (omega arith)) g.names,
      );
    })
  where
    next : ScalarId
    next = record { 0 = f.env.scalars }
with_globals (Array x n ∷ gs) f g =
    with_globals gs (with_global (Array x n) f) (record {
      boxes = g.boxes;
      outside = g.outside;
      names = (
        omega arith,
        each_more (IsGlobal f.arrays f.env.scalars) (IsGlobal (f.arrays + 1) f.env.scalars) f.env.names
            (global_more f.arrays (f.arrays + 1) f.env.scalars f.env.scalars (omega arith) (omega arith)) g.names,
      );
    })

all_globals : (gs : List Global) → AreGlobals (behind_globals gs no_front)
all_globals gs = with_globals gs no_front (record { boxes = refl; outside = refl; names = tt })

counted : (gs : List Global) (f : Front) → (behind_globals gs f).arrays ≡ f.arrays + length (arrays_in gs)
counted [] f = omega arith
counted (Scalar x ∷ gs) f = counted gs (with_global (Scalar x) f)
counted (Array x n ∷ gs) f =
    let rest = counted gs (with_global (Array x n) f) in omega (arith, rest)

pub arrays_counted : (gs : List Global) → (behind_globals gs no_front).arrays ≡ length (arrays_in gs)
arrays_counted gs = let all = counted gs no_front in omega (arith, all)

-- ---- before the statements

held : (d : List ℕ) (xs : List (List ℕ)) (scalars : ℕ) (e : Entry) → IsGlobal (length d) scalars e →
    IsHeld (layout_of d xs) scalars e
held d xs scalars (x, meaning.Array a) g = g
held d xs scalars (x, meaning.Scalar n i) g = g.0
held d xs scalars (x, meaning.Boxed a n) g = absurd g
held d xs scalars (x, meaning.Loop n) g = absurd g

all_outer : (arrays scalars : ℕ) (e : Entry) → IsGlobal arrays scalars e → IsOuter e
all_outer arrays scalars (x, meaning.Array a) g = tt
all_outer arrays scalars (x, meaning.Scalar n i) g = g.1
all_outer arrays scalars (x, meaning.Boxed a n) g = absurd g
all_outer arrays scalars (x, meaning.Loop n) g = absurd g

fits_global : (arrays scalars : ℕ) (m : Meaning) (x : List ℕ) → IsGlobal arrays scalars (x, m) → (e : Entry) →
    IsGlobal arrays scalars e → Fits m e
fits_global arrays scalars (meaning.Array a) x g (y, m) h = tt
fits_global arrays scalars (meaning.Scalar n i) x g (y, meaning.Array b) h = tt
fits_global arrays scalars (meaning.Scalar n i) x g (y, meaning.Scalar k j) h = tt
fits_global arrays scalars (meaning.Scalar n i) x g (y, meaning.Boxed b k) h = absurd h
fits_global arrays scalars (meaning.Scalar n i) x g (y, meaning.Loop k) h = tt
fits_global arrays scalars (meaning.Boxed a n) x g e h = absurd g
fits_global arrays scalars (meaning.Loop n) x g e h = absurd g

all_fit : (arrays scalars : ℕ) (ns : Names) → Each (IsGlobal arrays scalars) ns → AllFit ns
all_fit arrays scalars [] g = tt
all_fit arrays scalars (n ∷ ns) g = (
  each_more (IsGlobal arrays scalars) (Fits n.1) ns
      (fits_global arrays scalars n.1 n.0 g.0) g.1,
  all_fit arrays scalars ns g.1,
)

globals_outside : (lengths : List ℕ) (xs : List (List ℕ)) (env : Env) → env.boxes ≡ boxes_from (length lengths) xs →
    env.inside ≡ false →
    Each (IsGlobal (length lengths) env.scalars) env.names → IsOutside (layout_of lengths xs) env
globals_outside lengths xs env b e g =
    let Global : Entry → Type 0 = IsGlobal (length lengths) env.scalars in
    record {
      outside = e;
      names = each_more Global IsOuter env.names (all_outer (length lengths) env.scalars) g;
      sound = record {
        boxes = b;
        held = each_more Global (IsHeld (layout_of lengths xs) env.scalars) env.names (held lengths xs env.scalars) g;
        fit = all_fit (length lengths) env.scalars env.names g;
      };
    }

pub text_outside : (t : Text) (lengths : List ℕ) → length lengths ≡ (behind_globals t.globals no_front).arrays →
    IsOutside (layout_of lengths (boxes_of_text t)) (front_of_text t).env
text_outside t lengths e =
    let f : Front = behind_globals t.globals no_front in
    let known = all_globals t.globals in
    globals_outside lengths (boxes_of_text t) (front_of_text t).env
    (ap (λ (n : ℕ). boxes_from n (boxes_of_text t)) (sym e)) known.outside
    (subst (λ (n : ℕ). Each (IsGlobal n f.env.scalars) f.env.names) (sym e) known.names)

-- ---- without boxes

same_plain : (arrays scalars : ℕ) (ns : Names) → Each (IsGlobal arrays scalars) ns → plain_names ns ≡ ns
same_plain arrays scalars [] g = refl
same_plain arrays scalars (n ∷ ns) g =
    ap (λ (m : Meaning). (n.0, m) ∷ plain_names ns) (one n g.0)
    ∙ ap (λ (ms : Names). n ∷ ms) (same_plain arrays scalars ns g.1)
  where
    one : (n : Entry) → IsGlobal arrays scalars n → plain_meaning n.1 ≡ n.1
    one (x, meaning.Array a) g = refl
    one (x, meaning.Scalar k true) g = absurd (let bad = g.1 in cc)
    one (x, meaning.Scalar k false) g = refl
    one (x, meaning.Boxed a k) g = absurd g
    one (x, meaning.Loop k) g = absurd g

pub text_plain : (t : Text) → plain_env (front_of_text t).env ≡ (behind_globals t.globals no_front).env
text_plain t =
    let f : Front = behind_globals t.globals no_front in
    let g = all_globals t.globals in
    ap (λ (ns : Names). record f.env { names = ns; boxes = []; inside = false })
    (same_plain f.arrays f.env.scalars f.env.names g.names)
    ∙ ap (λ (bs : Boxes). record f.env { boxes = bs; inside = false }) (sym g.boxes)
    ∙ ap (λ (i : Bool). record f.env { inside = i }) (sym g.outside)

-- without a line that names boxed scalars
pub bare_plain : (t : Text) → (front_of_text (plain_tree t)).env ≡ (behind_globals t.globals no_front).env
bare_plain t =
    let f : Front = behind_globals t.globals no_front in
    ap (λ (bs : Boxes). record f.env { boxes = bs }) (sym (all_globals t.globals).boxes)

-- ---- the targets of main

pub main_safe : (t : Text) → KeepsRules source_grammar (slots t) → AreSafe (front_of_text t).env t.body
unfolding enter
main_safe t k =
    let f : Front = behind_globals t.globals no_front in
    let env : Env = (front_of_text t).env in
    let rest : Slots = body_closing ∷ (End, for Plain) ∷ [] in
    let b : Context = entered begin (globals t.globals) in
    let c : Context = entered b (boxes_slots t.boxes) in
    let all : Keeps begin (slots t) End = keeps_at (slots t) [] (slots t) k refl in
    let behind = (keeps_split begin (globals t.globals) (boxes_slots t.boxes ++ main_part t.body) End all).1 in
    let main = (keeps_split b (boxes_slots t.boxes) (main_part t.body) End behind).1 in
    let s = boxes_stand t.boxes b f (all_globals t.globals).boxes
    (globals_stand t.globals begin no_front
    (record { names = refl; boxes = refl; inside_is = refl; target = refl; turn = refl }, refl)) in
    let st = opens_block (out c) env false
    (record { names = s.names; boxes = s.boxes; inside_is = s.inside_is; target = s.target; turn = s.turn }) in
    let body = (keeps_split (opened (out c)) (stmts t.body) rest End main.1.1.1.1.1.1).0 in
    (known_within env t.body (stmts_known t.body 0 (opened (out c)) (within env false)
    (next_in rest End) st body).0).0 (all_globals t.globals).outside
