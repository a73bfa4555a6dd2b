-- The machine and the reader at main, and at a whole source.
use Rattle.std.proofs.Common.{◌≡◌, ℕ, ◌+◌, Bool, false, cond, List, [], ◌∷◌, ◌++◌, length, map, reverse, drop, Option, Some, None, Vec, Global as Heap, refl, sym, ap, subst, ◌∙◌, arith}
use Rattle.std.specs.List.{flat_map}
use Rattle.std.specs.declared.string.String.{String}
use Rattle.std.proofs.lemmas.Bool.{or_from}
use Rattle.c_tokens.specs.declared.kind.Sign.TheVariants as sign
use Rattle.base.specs.declared.tree.ArrayId.{ArrayId}
use Rattle.base.specs.declared.tree.ArrayInfo.{ArrayInfo}
use Rattle.base.specs.declared.tree.Program.{Program}
use Rattle.base.specs.declared.tree.ScalarId.{ScalarId}
use Rattle.c_grammar.specs.Lexeme.{Uint64, Int}
use Rattle.c_grammar.specs.Terminal.{Terminal, Fixed, Mark, Name, Num, Line, Unknown, Unworked, End, same}
use Rattle.c_grammar.specs.Grammar.{Slots, Global, Scalar, Array, boxes_slots, globals, stmts, main_part, body_closing, Plain, for}
use Rattle.c_grammar.specs.Rules.{Context, begin, opened, inside, under_if}
use Rattle.c_grammar.specs.Program.{Move, Stack, Globals, w, boxes_step, main_rest, advance, place_code}
use Rattle.c_expressions.specs.declared.cursor.Cursor.{Cursor}
use Rattle.c_expressions.specs.declared.scope.BoxedName.{BoxedName}
use Rattle.c_expressions.specs.declared.scope.Scope.{Scope}
use Rattle.c_expressions.specs.declared.scope.Frame.{Frame}
use Rattle.c_expressions.specs.declared.scope.Name.{Name as GivenName}
use Rattle.c_expressions.specs.Means.{Items, Names}
use Rattle.c_expressions.specs.Cursor.{items, first_item, behind}
use Rattle.c_expressions.specs.Reading.{run, terminals, kinds}
use Rattle.c_expressions.specs.Scopes.{as_boxes, box_numbers, context_of, names_in, names_of, seen_frame, seen_name, sorted_name}
use Rattle.c_expressions.proofs.Expressions.{kinds_append, drops}
use Rattle.c_expressions.proofs.Terms.{same_run}
use Rattle.c_statements.specs.Blocks.{turned}
use Rattle.c_statements.specs.Loops.{IsGone}
use Rattle.c_statements.specs.Simple.{env_of, loops_in}
use Rattle.c_statements.specs.Statements.{Env, box_for, declared_in, scalar_or_box}
use Rattle.c_statements.proofs.Heads.{gone_then, gone_three}
use Rattle.c_statements.proofs.Nesting.{env_inner, inner_same}
use Rattle.c_read.specs.Boxes.{AreBoxesRead, is_boxes_line}
use Rattle.c_read.specs.Globals.{Front, arrays_in, behind_globals, boxes_in, boxes_on, entry_of, front_of, no_front, with_boxes, with_global, AreGlobalsRead}
use Rattle.c_read.specs.Parts.{pieces_of, AreLongest, ArePieces}
use Rattle.c_read.specs.Read.{AreInnerRead, IsOutside}
use Rattle.c_read.specs.Spells.{main_tokens, IsTextRead}
use Rattle.c_read.specs.Starts.{IsStart}

-- ---- the words of main

no_line : (s : Stack) (t : Terminal) → is_boxes_line t ≡ false → boxes_step s t ≡ None
no_line s (Line ts) e = rw e refl
no_line s (Fixed u) e = refl
no_line s (Mark x) e = refl
no_line s (Name x) e = refl
no_line s (Num n) e = refl
no_line s Unknown e = refl
no_line s Unworked e = refl
no_line s End e = refl

main_step : (s : Stack) (t : Terminal) → same (Fixed Uint64) t ≡ false → is_boxes_line t ≡ false →
    advance (Globals ∷ s) t ≡ advance (w Int ∷ main_rest s) t
unfolding advance
main_step s t e f = rw e (ap (λ (o : Move). cond (same (Fixed Int) t) (Some (for Plain, main_rest s)) o)
    (no_line s t f))

pub main_comes : (c : Context) (s : Stack) (t : Cursor) → same (Fixed Uint64) (first_item t).terminal ≡ false →
    is_boxes_line (first_item t).terminal ≡ false →
    run c (Globals ∷ s) (items t) ≡ run c (w Int ∷ main_rest s) (items t)
unfolding place_code
main_comes c s t e f = same_run c (Globals ∷ s) (w Int ∷ main_rest s) (first_item t) (behind t)
    (main_step s (first_item t).terminal e f) refl

pub gone_six : (u0 u1 u2 u3 u4 u5 : Terminal) (t0 t1 t2 t3 t4 t5 t6 : Cursor) → (first_item t0).terminal ≡ u0 →
    behind t0 ≡ items t1 → (first_item t1).terminal ≡ u1 → behind t1 ≡ items t2 → (first_item t2).terminal ≡ u2 →
    behind t2 ≡ items t3 → (first_item t3).terminal ≡ u3 → behind t3 ≡ items t4 → (first_item t4).terminal ≡ u4 →
    behind t4 ≡ items t5 → (first_item t5).terminal ≡ u5 → behind t5 ≡ items t6 →
    IsGone (u0 ∷ u1 ∷ u2 ∷ u3 ∷ u4 ∷ u5 ∷ []) (items t0) (items t6)
gone_six u0 u1 u2 u3 u4 u5 t0 t1 t2 t3 t4 t5 t6 e0 b0 e1 b1 e2 b2 e3 b3 e4 b4 e5 b5 =
    gone_then (u0 ∷ u1 ∷ u2 ∷ []) (u3 ∷ u4 ∷ u5 ∷ []) (items t0) (items t3) (items t6)
    (gone_three u0 u1 u2 t0 t1 t2 t3 e0 b0 e1 b1 e2 b2) (gone_three u3 u4 u5 t3 t4 t5 t6 e3 b3 e4 b4 e5 b5)

-- ---- before the first token

abbrev first_scope : (alloc : Heap) (frames : Vec Frame Heap) (boxes : Vec BoxedName Heap) → Scope
first_scope alloc frames boxes = record {
  alloc = alloc;
  frames = frames;
  boxes = boxes;
  fresh = None;
  target = false;
  choice = false;
  limit = 0;
  cells = 0;
  arrays = 0;
  scalars = 0;
  statements = 0;
}

abbrev context_by : List Frame → List BoxedName → Context
context_by fs bs = record begin { frames = map seen_frame (reverse fs); boxes = map (λ b. (b.name.now, b.array.0)) bs }

abbrev front_by : List Frame → List BoxedName → Front
front_by fs bs = record {
  arrays = 0;
  env = record {
    names = flat_map names_in (reverse fs);
    boxes = as_boxes (map (λ b. (b.name.now, b.array.0)) bs);
    scalars = 0;
    loops = loops_in (flat_map names_in (reverse fs));
    inside = inside (context_by fs bs);
  };
}

pub start_is : (alloc : Heap) (frames : Vec Frame Heap) (boxes : Vec BoxedName Heap) (names : Vec GivenName Heap) →
    frames.items ≡ (let f : Frame = record { names = names; inside = false; choice = false } in f) ∷ [] →
    names.items ≡ [] → boxes.items ≡ [] → IsStart (first_scope alloc frames boxes)
start_is alloc frames boxes names e k b = record {
  context = ap (λ (fs : List Frame). context_by fs boxes.items) e ∙ ap (context_by first) b
      ∙ ap (λ (ns : List GivenName). (let c : Context = record begin {
        frames = record {
          names =
              map sorted_name (map seen_name (reverse ns));
          inside = false;
          choice = false;
        } ∷ [];
      } in c)) k;
  front = ap (λ (fs : List Frame). front_by fs boxes.items) e ∙ ap (front_by first) b
      ∙ ap (λ (ns : List GivenName). (let f : Front = record {
        arrays = 0;
        env = record {
          names =
              map seen_name (reverse ns) ++ [];
          boxes = [];
          scalars = 0;
          loops =
              loops_in (map seen_name (reverse ns) ++ []);
          inside = false;
        };
      } in f)) k;
}
  where
    first : List Frame
    first = record { names = names; inside = false; choice = false } ∷ []

-- no scalar is boxed yet
pub start_none : (s : Scope) → IsStart s → box_numbers s ≡ []
start_none s h = ap (λ (c : Context). c.boxes) h.context

-- ---- in main

no_loop : (id : ScalarId) (b : Bool) (o : Option ArrayId) (x : List ℕ) (ns : Names) →
    loops_in ((x, scalar_or_box id b o) ∷ ns) ≡ loops_in ns
no_loop id b None x ns = refl
no_loop id b (Some a) x ns = refl

no_loops : (gs : List Global) (f : Front) → loops_in f.env.names ≡ 0 → loops_in (behind_globals gs f).env.names ≡ 0
no_loops [] f e = e
no_loops (Scalar x ∷ gs) f e = no_loops gs (with_global (Scalar x) f)
    (no_loop (record { 0 = f.env.scalars }) f.env.inside (box_for x f.env) x f.env.names ∙ e)
no_loops (Array x n ∷ gs) f e = no_loops gs (with_global (Array x n) f) e

never_inside : (gs : List Global) (f : Front) → f.env.inside ≡ false → (behind_globals gs f).env.inside ≡ false
never_inside [] f e = e
never_inside (Scalar x ∷ gs) f e = never_inside gs (with_global (Scalar x) f) e
never_inside (Array x n ∷ gs) f e = never_inside gs (with_global (Array x n) f) e

module _ {Z : Type 0} where
  -- s0 is what stands before the first token, s1 behind the globals, s2 behind the line of the boxed scalars
  front_is : (s0 s1 s2 : Scope) (es fs : List (String Z × ArrayInfo)) (i0 i1 i2 : Items)
      (r : AreGlobalsRead s0 s1 [] es i0 i1) (b : AreBoxesRead s1 s2 es fs i1 i2) → IsStart s0 →
      front_of s2 ≡ with_boxes b.line (behind_globals r.text no_front)
  front_is s0 s1 s2 es fs i0 i1 i2 r b h =
      b.front ∙ ap (λ (f : Front). with_boxes b.line f) (r.front ∙ ap (λ (f : Front). behind_globals r.text f) h.front)

  -- no block is open yet
  quiet : (s0 s1 s2 : Scope) (es fs : List (String Z × ArrayInfo)) (i0 i1 i2 : Items) → IsStart s0 →
      AreGlobalsRead s0 s1 [] es i0 i1 → AreBoxesRead s1 s2 es fs i1 i2 →
      (s2.target ≡ false) × (s2.choice ≡ false) × (under_if (context_of s2 0 0) ≡ false)
  quiet s0 s1 s2 es fs i0 i1 i2 h r b = (
    b.still.target ∙ r.still.target ∙ ap (λ (c : Context). c.target) h.context,
    b.still.choice ∙ r.still.choice ∙ ap (λ (c : Context). c.choice) h.context,
    b.still.always ∙ r.still.always ∙ ap (λ (c : Context). under_if c) h.context,
  )

  pub main_outside : (s0 s1 s2 s3 : Scope) (es fs : List (String Z × ArrayInfo)) (i0 i1 i2 : Items) → IsStart s0 →
      AreGlobalsRead s0 s1 [] es i0 i1 → AreBoxesRead s1 s2 es fs i1 i2 →
      context_of s3 0 0 ≡ opened (turned None s2) → names_of s3 ≡ names_of s2 → IsOutside s3
  main_outside s0 s1 s2 s3 es fs i0 i1 i2 h r b e n =
      let front : front_of s2 ≡ with_boxes b.line (behind_globals r.text no_front) =
      front_is s0 s1 s2 es fs i0 i1 i2 r b h in
      let loops : loops_in (names_of s3) ≡ 0 =
      ap (λ (ns : Names). loops_in ns) n ∙ ap (λ (f : Front). loops_in f.env.names) front ∙ no_loops r.text no_front refl in
      let within : inside (context_of s2 0 0) ≡ false =
      ap (λ (f : Front). f.env.inside) front ∙ never_inside r.text no_front refl in
      let q = quiet s0 s1 s2 es fs i0 i1 i2 h r b in
      record {
        ready = record { target = ap (λ (c : Context). c.target) e; loops = omega (arith, loops) };
        outside = ap (λ (c : Context). inside c) e ∙ or_from (inside (context_of s2 0 0)) s2.target within q.0;
        always = ap (λ (c : Context). under_if c) e ∙ or_from (under_if (context_of s2 0 0)) s2.choice q.2 q.1;
        waiting = ap (λ (c : Context). c.choice) e;
      }

  pub read_text : (s0 s1 s2 s3 : Scope) (es fs : List (String Z × ArrayInfo)) (i0 i1 i2 i3 i4 : Items) (n : ℕ)
      (p : Program) → IsStart s0 → AreGlobalsRead s0 s1 [] es i0 i1 → AreBoxesRead s1 s2 es fs i1 i2 →
      context_of s3 0 0 ≡ opened (turned None s2) → names_of s3 ≡ names_of s2 →
      s3.scalars ≡ s2.scalars → IsGone main_tokens i2 i3 →
      AreInnerRead (env_of s3) n i3 i4 (pieces_of p.body.items) → terminals i4 ≡ End ∷ [] →
      map entry_of p.arrays.entries ≡ map entry_of fs → p.scalars ≡ n → AreLongest false p.body.items → IsTextRead i0 p
  read_text s0 s1 s2 s3 es fs i0 i1 i2 i3 i4 n p h r x e names next g b end entries count longest =
      let gs = r.text in
      let boxed : Slots = boxes_slots x.line in
      let rear : Slots = body_closing ∷ (End, for Plain) ∷ [] in
      let before : Front = behind_globals gs no_front in
      let first : front_of s1 ≡ before = r.front ∙ ap (λ (f : Front). behind_globals gs f) h.front in
      let front : front_of s2 ≡ with_boxes x.line before = front_is s0 s1 s2 es fs i0 i1 i2 r x h in
      let env : env_of s3 ≡ (with_boxes x.line before).env =
      env_inner s2 s3 None e names next ∙ inner_same s2 (quiet s0 s1 s2 es fs i0 i1 i2 h r x).0
      ∙ ap (λ (f : Front). f.env) front in
      let at : i3 ≡ drop (length (globals gs) + length boxed + 6) i0 =
      drops (length (globals gs) + length boxed) 6 i0 i2 i3
      (drops (length (globals gs)) (length boxed) i0 i1 i2 r.rest x.rest) g.rest in
      let body : kinds (stmts b.texts ++ rear) ≡ kinds (stmts b.texts) ++ (Mark sign.CloseBrace ∷ End ∷ []) = kinds_append (stmts b.texts) rear in
      let main : terminals i2 ≡ kinds (main_part b.texts) =
      g.tokens ∙ ap (λ (ts : List Terminal). main_tokens ++ ts)
      (b.tokens ∙ ap (λ (ts : List Terminal). kinds (stmts b.texts) ++ (Mark sign.CloseBrace ∷ ts)) end ∙ sym body) in
      let line : terminals i1 ≡ kinds (boxed ++ main_part b.texts) =
      x.tokens ∙ ap (λ (ts : List Terminal). kinds boxed ++ ts) main ∙ sym (kinds_append boxed (main_part b.texts)) in
      record {
        text = record { globals = gs; boxes = x.line; body = b.texts };
        tokens = r.tokens ∙ ap (λ (ts : List Terminal). kinds (globals gs) ++ ts) line
            ∙ sym (kinds_append (globals gs) (boxed ++ main_part b.texts));
        is_text = (x.are, b.are_texts);
        means = record {
          arrays = entries ∙ x.entries
              ∙ ap (λ (us : List (List ℕ × Option ℕ)). us ++ boxes_in (boxes_on (front_of s1) x.line)) r.entries
              ∙ ap (λ (f : Front). arrays_in gs ++ boxes_in (boxes_on f x.line)) first;
          scalars = count ∙ b.scalars ∙ ap (λ (v : Env). v.scalars + declared_in b.texts) env;
          body = record {
            pieces = subst
                (λ (is : Items). ArePieces (with_boxes x.line before).env is b.texts (pieces_of p.body.items)) at
                (subst (λ (v : Env). ArePieces v i3 b.texts (pieces_of p.body.items)) env b.means);
            longest = longest;
          };
        };
      }
