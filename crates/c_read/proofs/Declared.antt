-- One global that was read.
use Rattle.std.proofs.Common.{◌≡◌, ℕ, ◌+◌, ◌<◌, Bool, true, false, cond, List, [], ◌∷◌, ◌++◌, length, map, Option, Some, None, refl, sym, ap, subst, ◌∙◌, arith, length-append}
use Rattle.std.specs.Prelude.{nat_lt, nat_le, ◌||◌, ◌&&◌, is_some, string_bytes}
use Rattle.std.specs.Str.{bytes_eq, IsAscii}
use Rattle.std.proofs.lemmas.Slice.Eq.{bytes_eq-Decides}
use Rattle.std.specs.Str.Lossy.{utf8_lossy}
use Rattle.std.specs.String.{string_eq}
use Rattle.std.proofs.lemmas.Bool.Decides.{nat_tests}
use Rattle.std.proofs.lemmas.List.{append-nil, length-map, map_push}
use Rattle.std.specs.declared.string.String.{String}
use Rattle.std.proofs.lemmas.Bool.{or_parts}
use Rattle.indexmap.specs.IndexMap.{insert_entry}
use Rattle.c_tokens.specs.declared.kind.Sign.TheVariants as sign
use Rattle.base.specs.declared.fault.ReadCode.{ReadCode as Code}
use Rattle.base.specs.declared.fault.ReadCode.TheVariants.{Unexpected, AlreadyDeclared, TooMany}
use Rattle.base.specs.declared.tree.ArrayId.{ArrayId}
use Rattle.base.specs.declared.tree.ArrayInfo.{ArrayInfo}
use Rattle.c_grammar.specs.AsciiNames.{AreAscii}
use Rattle.c_grammar.specs.Lexeme.{Uint64}
use Rattle.c_grammar.specs.LineRules.{max_name}
use Rattle.c_grammar.specs.Terminal.{Terminal, Fixed, Mark, Name, Num, same}
use Rattle.c_grammar.specs.Texts.{Item}
use Rattle.c_grammar.specs.Machine.{run as machine_run}
use Rattle.c_grammar.specs.Grammar.{Scalar, Array, DeclaresGlobal}
use Rattle.c_grammar.specs.Rules.{Context, breaks, enter, inside, is_visible, sort_of, max_arrays, max_scalars, rule_here}
use Rattle.c_grammar.specs.Program.{Stack, AfterGlobal, Globals, WantName, advance, place_code, first_broken}
use Rattle.c_expressions.specs.declared.cursor.Cursor.{Cursor}
use Rattle.c_expressions.specs.declared.scope.Meaning.TheVariants as meaning
use Rattle.c_expressions.specs.declared.scope.Scope.{Scope}
use Rattle.c_expressions.specs.Means.{Items, Names, meaning_of}
use Rattle.c_expressions.specs.Cursor.{items, first_item, behind}
use Rattle.c_expressions.specs.Reading.{run, misfit_at, terminals}
use Rattle.c_expressions.specs.Scopes.{Boxes, as_boxes, box_numbers, box_of, boxes_of, context_of, names_of}
use Rattle.c_expressions.proofs.Going.{put, put_is, stop, was_mark}
use Rattle.c_expressions.proofs.Expressions.{behind_less}
use Rattle.c_statements.specs.Loops.{IsGone}
use Rattle.c_statements.specs.Simple.{env_of, loops_in}
use Rattle.c_statements.specs.Statements.{box_for, scalar_or_box}
use Rattle.c_statements.proofs.Heads.{gone_one, gone_then}
use Rattle.c_read.specs.Globals.{Front, global_code, is_over, front_of, behind_globals, entry_of, AreGlobalsRead, AreKnown, IsArrayNamed, IsArrayRead, IsNamedAt, IsScalarNamed}
use Rattle.c_read.proofs.Entries.{insert_last, known_last, known_more, name_kept}

-- ---- the word

item_word : (c : Context) (s : Stack) (i : Item Terminal) (is : Items) → c.depth ≡ 0 → c.tokens ≡ 0 →
    run c (Globals ∷ s) (put i (Fixed Uint64) ∷ is) ≡ run c (WantName DeclaresGlobal ∷ AfterGlobal ∷ Globals ∷ s) is
unfolding run machine_run advance first_broken breaks enter
item_word c s i is d n = rw (d, n) refl

pub go_word : (sc : Scope) (s : Stack) (t t' : Cursor) → (first_item t).terminal ≡ Fixed Uint64 → behind t ≡ items t' →
    run (context_of sc 0 0) (Globals ∷ s) (items t) ≡
    run (context_of sc 0 0) (WantName DeclaresGlobal ∷ AfterGlobal ∷ Globals ∷ s) (items t')
go_word sc s t t' e b =
    ap (λ (i : Item Terminal). run (context_of sc 0 0) (Globals ∷ s) (i ∷ behind t)) (put_is (first_item t) (Fixed Uint64) e)
    ∙ item_word (context_of sc 0 0) s (first_item t) (behind t) refl refl
    ∙ ap (run (context_of sc 0 0) (WantName DeclaresGlobal ∷ AfterGlobal ∷ Globals ∷ s)) b

pub named_at : (x : List ℕ) (t0 t1 t2 : Cursor) → (first_item t0).terminal ≡ Fixed Uint64 → behind t0 ≡ items t1 →
    (first_item t1).terminal ≡ Name x → behind t1 ≡ items t2 → IsNamedAt x (items t0) (items t2)
named_at x t0 t1 t2 e b f d =
    record {
      gone =
          gone_then (Fixed Uint64 ∷ []) (Name x ∷ []) (items t0) (items t1) (items t2) (gone_one (Fixed Uint64) t0 t1 e b)
          (gone_one (Name x) t1 t2 f d);
    }

-- ---- behind the name

next_none : (s : Stack) (t : Terminal) → same (Mark sign.OpenBracket) t ≡ false → same (Mark sign.Semicolon) t ≡ false →
    advance (AfterGlobal ∷ s) t ≡ None
unfolding advance
next_none s t e f = rw (e, f) refl

pub stop_global : (c : Context) (s : Stack) (t : Cursor) → same (Mark sign.OpenBracket) (first_item t).terminal ≡ false →
    same (Mark sign.Semicolon) (first_item t).terminal ≡ false →
    run c (AfterGlobal ∷ s) (items t) ≡ Some (misfit_at (Some (rule_here Unexpected)) (first_item t))
unfolding place_code
stop_global c s t e f = stop c (AfterGlobal ∷ s) (first_item t) (behind t) (next_none s (first_item t).terminal e f) refl

not_over : (v o : Bool) (code code' : Code) → cond v (Some code) (cond o (Some code') None) ≡ None → o ≡ false
not_over true o code code' e = absurd cc
not_over false true code code' e = absurd cc
not_over false false code code' e = refl

and_right : (a b : Bool) → a ≡ true → (a && b) ≡ false → b ≡ false
and_right true b h e = e
and_right false b h e = absurd cc

within : (sc : Scope) (x : List ℕ) (next : Terminal) → global_code sc x next ≡ None → is_over sc x next ≡ false
within sc x next e =
    not_over (is_visible (sort_of (context_of sc 0 0) x)) (is_over sc x next) AlreadyDeclared TooMany e

pub few_arrays : (sc : Scope) (x : List ℕ) (next : Terminal) → global_code sc x next ≡ None →
    same (Mark sign.OpenBracket) next ≡ true → sc.arrays < 64
few_arrays sc x next e h =
    let p = same (Mark sign.OpenBracket) next in
    let q = same (Mark sign.Semicolon) next && nat_le max_scalars sc.scalars in
    let few : nat_le max_arrays sc.arrays ≡ false =
    and_right p (nat_le max_arrays sc.arrays) h
    (or_parts (p && nat_le max_arrays sc.arrays) q
    (or_parts (nat_lt max_name (length x)) ((p && nat_le max_arrays sc.arrays) || q) (within sc x next e)).1).0 in
    grind (arith, nat_tests)

pub few_scalars : (sc : Scope) (x : List ℕ) (next : Terminal) → global_code sc x next ≡ None →
    same (Mark sign.Semicolon) next ≡ true → sc.scalars < 256
few_scalars sc x next e h =
    let p = same (Mark sign.OpenBracket) next && nat_le max_arrays sc.arrays in
    let q = same (Mark sign.Semicolon) next in
    let few : nat_le max_scalars sc.scalars ≡ false =
    and_right q (nat_le max_scalars sc.scalars) h
    (or_parts p (q && nat_le max_scalars sc.scalars)
    (or_parts (nat_lt max_name (length x)) (p || (q && nat_le max_scalars sc.scalars)) (within sc x next e)).1).1 in
    grind (arith, nat_tests)

pub name_ascii : (x : List ℕ) (before after : Items) → AreAscii (terminals before) → IsNamedAt x before after → IsAscii x
name_ascii x before after h n = go (subst_ascii n.gone.tokens h)
  where
    subst_ascii : {ts us : List Terminal} → ts ≡ us → AreAscii ts → AreAscii us
    subst_ascii e a = rw (sym e) a

    go : AreAscii (Fixed Uint64 ∷ Name x ∷ terminals after) → IsAscii x
    go a = a.1.0

-- ---- what was read

front_by : (a : ℕ) (ns : Names) (bs : Boxes) (n : ℕ) (b : Bool) → Front
front_by a ns bs n b =
    record { arrays = a; env = record { names = ns; boxes = bs; scalars = n; loops = loops_in ns; inside = b } }

array_front : (old new : Scope) (x : List ℕ) → IsArrayNamed x old new →
    front_of new ≡ behind_globals (Array x None ∷ []) (front_of old)
unfolding front_by
array_front old new x r =
    let ns : Names = (x, meaning.Array (record { 0 = old.arrays })) ∷ names_of old in
    let j : Bool = inside (context_of new 0 0) in
    ap (λ (a : ℕ). front_by a (names_of new) (boxes_of new) new.scalars j) r.arrays
    ∙ ap (λ (ms : Names). front_by (old.arrays + 1) ms (boxes_of new) new.scalars j) r.names
    ∙ ap (λ (bs : List (List ℕ × ℕ)). front_by (old.arrays + 1) ns (as_boxes bs) new.scalars j) r.boxes
    ∙ ap (λ (n : ℕ). front_by (old.arrays + 1) ns (boxes_of old) n j) r.next
    ∙ ap (λ (b : Bool). front_by (old.arrays + 1) ns (boxes_of old) old.scalars b) r.inside_is

-- no scalar is boxed yet
no_box : (b : Bool) → cond {A = Option ArrayId} b None None ≡ None
no_box true = refl
no_box false = refl

plain_box : (old : Scope) (x : List ℕ) → box_numbers old ≡ [] → box_for x (env_of old) ≡ None
plain_box old x e =
    let b : Bool = inside (context_of old 0 0) || is_some (meaning_of (names_of old) x) in
    ap (λ (bs : List (List ℕ × ℕ)). cond b None (box_of (as_boxes bs) x)) e ∙ no_box b

scalar_front : (old new : Scope) (x : List ℕ) → box_numbers old ≡ [] → IsScalarNamed x old new →
    front_of new ≡ behind_globals (Scalar x ∷ []) (front_of old)
unfolding front_by
scalar_front old new x e r =
    let i : Bool = inside (context_of old 0 0) in
    let ns : Names = (x, meaning.Scalar (record { 0 = old.scalars }) i) ∷ names_of old in
    let j : Bool = inside (context_of new 0 0) in
    ap (λ (a : ℕ). front_by a (names_of new) (boxes_of new) new.scalars j) r.arrays
    ∙ ap (λ (ms : Names). front_by old.arrays ms (boxes_of new) new.scalars j) r.names
    ∙ ap (λ (bs : List (List ℕ × ℕ)). front_by old.arrays ns (as_boxes bs) new.scalars j) r.boxes
    ∙ ap (λ (n : ℕ). front_by old.arrays ns (boxes_of old) n j) r.next
    ∙ ap (λ (b : Bool). front_by old.arrays ns (boxes_of old) (old.scalars + 1) b) r.inside_is
    ∙ ap (λ (o : Option ArrayId). (let f : Front = record {
      arrays = old.arrays;
      env = record {
        names = (x, scalar_or_box (record { 0 = old.scalars }) i o) ∷ names_of old;
        boxes = boxes_of old;
        scalars = old.scalars + 1;
        loops = loops_in (names_of old);
        inside = i;
      };
    } in f)) (sym (plain_box old x e))

bytes_eq-same : (x : List ℕ) → bytes_eq x x ≡ true
bytes_eq-same x = (bytes_eq-Decides x x).1 refl

gone_fewer : (u : Terminal) (us : List Terminal) (before after : Items) → IsGone (u ∷ us) before after →
    length after < length before
gone_fewer u us before after g =
    let all : length (terminals before) ≡ length (u ∷ us) + length (terminals after) =
    ap (λ (ts : List Terminal). length ts) g.tokens ∙ length-append (u ∷ us) (terminals after) in
    omega (arith, all, length-map before (λ (i : Item Terminal). i.terminal), length-map after (λ (i : Item Terminal). i.terminal))

pub fewer_scalar : (x : List ℕ) (i0 : Items) (t1 t2 : Cursor) → IsNamedAt x i0 (items t1) → behind t1 ≡ items t2 →
    length (items t2) < length i0
fewer_scalar x i0 t1 t2 n b =
    let a = gone_fewer (Fixed Uint64) (Name x ∷ []) i0 (items t1) n.gone in
    omega (arith, a, behind_less t1 t2 b)

module _ {Z : Type 0} where
  pub fewer_array : (x : List ℕ) (old new : Scope) (es fs : List (String Z × ArrayInfo)) (i0 i1 i2 : Items) →
      IsNamedAt x i0 i1 → IsArrayRead x old new es fs i1 i2 → length i2 < length i0
  fewer_array x old new es fs i0 i1 i2 n r =
      let a = gone_fewer (Fixed Uint64) (Name x ∷ []) i0 i1 n.gone in
      let b = gone_fewer (Mark sign.OpenBracket) (Num (Some r.cells) ∷ Mark sign.CloseBracket ∷ Mark sign.Semicolon ∷ []) i1 i2 r.gone in
      omega (arith, a, b)

  pub array_added : (x : List ℕ) (k : String Z) (v : ArrayInfo) (old new : Scope) (es fs : List (String Z × ArrayInfo)) (before after : Items) →
      IsAscii x → meaning_of (names_of old) x ≡ None → AreKnown (names_of old) es → string_bytes k ≡ utf8_lossy x →
      fs ≡ insert_entry string_eq es k v → IsArrayNamed x old new →
      IsGone (Mark sign.OpenBracket ∷ Num (Some v.length) ∷ Mark sign.CloseBracket ∷ Mark sign.Semicolon ∷ []) before after →
      IsArrayRead x old new es fs before after
  array_added x k v old new es fs before after a m h b e named gone =
      let same_bytes : string_bytes k ≡ x = b ∙ name_kept x a in
      let last : fs ≡ es ++ (k, v) ∷ [] =
      e ∙ insert_last k v (names_of old) es h (ap (meaning_of (names_of old)) same_bytes ∙ m) in
      record {
        cells = v.length;
        gone = gone;
        named = named;
        entries =
            ap (λ (us : List (String Z × ArrayInfo)). map entry_of us) last ∙ map_push entry_of es (k, v)
            ∙ ap (λ (y : List ℕ). map entry_of es ++ (y, Some v.length) ∷ []) same_bytes;
        known =
            subst (λ (us : List (String Z × ArrayInfo)). AreKnown (names_of new) us) (sym last)
            (known_last (names_of new) es (k, v)
            (subst (λ (ns : Names). AreKnown ns es) (sym named.names)
            (known_more x (meaning.Array (record { 0 = old.arrays })) (names_of old) es h))
            (ap (λ (ns : Names). is_some (meaning_of ns (string_bytes k))) named.names ∙ found k same_bytes));
      }
    where
      found : (j : String Z) → string_bytes j ≡ x →
          is_some (meaning_of ((x, meaning.Array (record { 0 = old.arrays })) ∷ names_of old) (string_bytes j)) ≡ true
      found j e = rw (e, bytes_eq-same x) refl

  pub read_array : (x : List ℕ) (old new : Scope) (es fs : List (String Z × ArrayInfo)) (i0 i1 i2 : Items) →
      IsNamedAt x i0 i1 → IsArrayRead x old new es fs i1 i2 → AreGlobalsRead old new es fs i0 i2
  read_array x old new es fs i0 i1 i2 n r =
      let both = gone_then (Fixed Uint64 ∷ Name x ∷ [])
      (Mark sign.OpenBracket ∷ Num (Some r.cells) ∷ Mark sign.CloseBracket ∷ Mark sign.Semicolon ∷ []) i0 i1 i2 n.gone r.gone in
      record {
        text = Array x (Some r.cells) ∷ [];
        tokens = both.tokens;
        rest = both.rest;
        front = array_front old new x r.named;
        still = r.named.still;
        entries = r.entries;
        known = r.known;
      }

  pub read_scalar : (x : List ℕ) (old new : Scope) (es : List (String Z × ArrayInfo)) (i0 : Items) (t1 t2 : Cursor) →
      box_numbers old ≡ [] → IsNamedAt x i0 (items t1) → AreKnown (names_of old) es →
      same (Mark sign.Semicolon) (first_item t1).terminal ≡ true →
      behind t1 ≡ items t2 → IsScalarNamed x old new → AreGlobalsRead old new es es i0 (items t2)
  read_scalar x old new es i0 t1 t2 o n h e b s =
      let both = gone_then (Fixed Uint64 ∷ Name x ∷ []) (Mark sign.Semicolon ∷ []) i0 (items t1) (items t2) n.gone
      (gone_one (Mark sign.Semicolon) t1 t2 (was_mark sign.Semicolon t1 e) b) in
      record {
        text = Scalar x ∷ [];
        tokens = both.tokens;
        rest = both.rest;
        front = scalar_front old new x o s;
        still = s.still;
        entries = sym (append-nil (map entry_of es));
        known =
            subst (λ (ns : Names). AreKnown ns es) (sym s.names)
            (known_more x (meaning.Scalar (record { 0 = old.scalars }) (inside (context_of old 0 0))) (names_of old) es h);
      }
