-- The line of the boxed scalars: its words, the machine there, and what was read.
use Rattle.std.proofs.Common.{◌≡◌, ℕ, zero, suc, ◌+◌, ◌-◌, ◌≤◌, Bool, true, false, List, [], ◌∷◌, ◌++◌, length, map, Option, Some, None, Vec, Global, refl, sym, ap, subst, ◌∙◌, arith, length-append, slice_index_or}
use mathlib.Core.Path.{fun_ext}
use Rattle.std.specs.Prelude.{◌&&◌, is_some, not}
use Rattle.std.specs.Borrow.{Bor}
use Rattle.std.specs.Option.{option_map}
use Rattle.std.proofs.lemmas.Bool.{and_right, or_parts}
use Rattle.std.proofs.lemmas.List.{map_push}
use Rattle.std.specs.declared.string.String.{String}
use Rattle.base.specs.declared.fault.ReadCode.{ReadCode as Code}
use Rattle.base.specs.declared.fault.ReadCode.TheVariants.{Unexpected}
use Rattle.base.specs.declared.tree.ArrayInfo.{ArrayInfo}
use Rattle.c_grammar.specs.Grammar.{Boxes as BoxesAct, for}
use Rattle.c_grammar.specs.Lexeme.{Int, Lexeme, Placed, same}
use Rattle.c_grammar.specs.Lines.{boxed_names, boxing_word, is_boxing, is_omp}
use Rattle.c_grammar.specs.Machine.{run as machine_run}
use Rattle.c_grammar.specs.Program.{Stack, Globals, advance, first_broken, main_rest, w}
use Rattle.c_grammar.specs.Rules.{Context, Rule, breaks, breaks_part, enter, fresh_names, is_faulty, is_one, is_visible, max_arrays, misuses, names_on, numbered_from, sort_of, source_grammar, under_if}
use Rattle.c_grammar.specs.Terminal.{Terminal, Fixed, Mark, Name, Num, Line, Unknown, Unworked, End}
use Rattle.c_grammar.specs.Texts.{Item, next_of}
use Rattle.c_grammar.proofs.Ruled.{some_broken}
use Rattle.c_expressions.specs.declared.cursor.Cursor.{Cursor}
use Rattle.c_expressions.specs.declared.scope.BoxedName.{BoxedName}
use Rattle.c_expressions.specs.declared.scope.Meaning.{Meaning}
use Rattle.c_expressions.specs.declared.scope.Scope.{Scope}
use Rattle.c_expressions.specs.Cursor.{items, first_item, behind}
use Rattle.c_expressions.specs.Means.{Items, Names, meaning_of}
use Rattle.c_expressions.specs.Reading.{run}
use Rattle.c_expressions.specs.Scopes.{as_boxes, box_numbers, boxes_of, context_of, names_of, sort_of_meaning}
use Rattle.c_expressions.proofs.Contexts.{sort_is}
use Rattle.c_expressions.proofs.Expressions.{first_then}
use Rattle.c_expressions.proofs.Going.{put, put_is}
use Rattle.directives.specs.declared.lexeme.PlacedLexeme.{PlacedLexeme}
use Rattle.directives.specs.Seen.{seen_lexeme, seen_placed}
use Rattle.directives.specs.Spells.{kinds_of}
use Rattle.c_statements.specs.Simple.{env_of}
use Rattle.c_read.specs.Boxes.{AreBoxed, AreBoxesRead, HasNoEntry, IsBoxed, boxed_in, boxed_of, boxing, is_boxes_line, is_taken}
use Rattle.c_read.specs.Globals.{AreKnown, Front, boxes_in, entry_of, front_of}
use Rattle.c_read.proofs.Boxed.{no_entry, numbered_more}

-- ---- its words

-- behind the words of a directive the third tells
pub told_by_third : (b : Bool) (xs : List PlacedLexeme) (ps : List Placed) (d : PlacedLexeme) → 3 ≤ length xs →
    map seen_placed xs ≡ ps → is_omp (kinds_of ps) ≡ true →
    b ≡ same boxing_word (seen_lexeme (slice_index_or xs 2 d).lexeme) → b ≡ is_boxing (kinds_of ps)
unfolding is_omp
told_by_third b [] ps d h e o s = absurd (omega (arith, h))
told_by_third b (x ∷ []) ps d h e o s = absurd (omega (arith, h))
told_by_third b (x ∷ y ∷ []) ps d h e o s = absurd (omega (arith, h))
told_by_third b (x ∷ y ∷ z ∷ xs) ps d h e o s =
    let words : is_omp (kinds_of (map seen_placed (x ∷ y ∷ z ∷ xs))) ≡ true =
    ap (λ (us : List Placed). is_omp (kinds_of us)) e ∙ o in
    s ∙ ap (λ (w : Bool). w && same boxing_word (seen_lexeme z.lexeme)) (sym words)
    ∙ ap (λ (us : List Placed). is_boxing (kinds_of us)) e

pub told_by_words : (xs : List PlacedLexeme) (ps : List Placed) → 3 ≤ length xs → map seen_placed xs ≡ ps →
    is_omp (kinds_of ps) ≡ false → is_boxing (kinds_of ps) ≡ false
unfolding is_omp
told_by_words [] ps h e o = absurd (omega (arith, h))
told_by_words (x ∷ []) ps h e o = absurd (omega (arith, h))
told_by_words (x ∷ y ∷ []) ps h e o = absurd (omega (arith, h))
told_by_words (x ∷ y ∷ z ∷ xs) ps h e o =
    let words : is_omp (kinds_of (map seen_placed (x ∷ y ∷ z ∷ xs))) ≡ false =
    ap (λ (us : List Placed). is_omp (kinds_of us)) e ∙ o in
    ap (λ (us : List Placed). is_boxing (kinds_of us)) (sym e)
    ∙ ap (λ (w : Bool). w && same boxing_word (seen_lexeme z.lexeme)) words

-- the words of the line
record HasLine (t : Terminal) : Type 0 where
  line : List Lexeme
  is : t ≡ Line line
  words : is_boxing line ≡ true

line_of : (t : Terminal) → is_boxes_line t ≡ true → HasLine t
line_of (Line ts) h = record { line = ts; is = refl; words = h }
line_of (Fixed u) h = absurd cc
line_of (Mark s) h = absurd cc
line_of (Name x) h = absurd cc
line_of (Num n) h = absurd cc
line_of Unknown h = absurd cc
line_of Unworked h = absurd cc
line_of End h = absurd cc

-- ---- one name

-- what is added for it
abbrev next_box : Bor (List ℕ) → Scope → BoxedName
next_box x s = record { name = x; array = record { 0 = s.arrays } }

module _ {Z : Type 0} where
  pub box_added : (x : Bor (List ℕ)) (bs : Vec BoxedName Global) (old : Scope)
      (es fs : List (String Z × ArrayInfo)) →
      bs.items ≡ old.boxes.items ++ next_box x old ∷ [] →
      map entry_of fs ≡ map entry_of es ++ (x.now, Some 1) ∷ [] →
      IsBoxed x.now old (record old { boxes = bs; arrays = old.arrays + 1 }) es fs
  box_added x bs old es fs e g = record {
    scope = refl;
    boxes = ap (λ (us : List BoxedName). map seen_box us) e
        ∙ map_push seen_box old.boxes.items (next_box x old);
    arrays = refl;
    entries = g;
  }
    where
      seen_box : BoxedName → List ℕ × ℕ
      seen_box b = (b.name.now, b.array.0)

-- what stands before another one differs in the boxed scalars and their arrays alone
pub free_before : (old mid : Scope) (x : List ℕ) (r : Bool) → mid ≡ boxing old mid →
    r ≡ is_taken (names_of mid) (boxed_in mid) x → r ≡ false → is_taken (names_of old) (boxed_in mid) x ≡ false
free_before old mid x r e f g =
    ap (λ (ns : Names). is_taken ns (boxed_in mid) x) (sym (ap names_of e)) ∙ sym f ∙ g

module _ {Z : Type 0} where
  pub fresh_entry : (old mid : Scope) (x : List ℕ) (es ms : List (String Z × ArrayInfo)) →
      is_taken (names_of old) (boxed_in mid) x ≡ false → AreKnown (names_of old) es →
      map entry_of ms ≡ map entry_of es ++ boxes_in (boxed_in mid) → HasNoEntry x (map entry_of ms)
  fresh_entry old mid x es ms f k e =
      let both = or_parts (is_some (meaning_of (names_of old) x)) (is_one (boxed_in mid) x) f in
      subst (λ (us : List (List ℕ × Option ℕ)). HasNoEntry x us) (sym e)
      (no_entry (names_of old) x (boxed_in mid) es k both.0 both.1)

  -- behind one more
  pub past_more : (x : List ℕ) (mid new : Scope) (ms fs : List (String Z × ArrayInfo)) → IsBoxed x mid new ms fs →
      boxed_in new ≡ boxed_in mid ++ x ∷ []
  past_more x mid new ms fs r = ap (λ (bs : List (List ℕ × ℕ)). map box_name bs) r.boxes
      ∙ map_push box_name (box_numbers mid) (x, mid.arrays)
    where
      box_name : List ℕ × ℕ → List ℕ
      box_name b = b.0

  pub scope_more : (x : List ℕ) (old mid new : Scope) (ms fs : List (String Z × ArrayInfo)) → mid ≡ boxing old mid →
      IsBoxed x mid new ms fs → new ≡ boxing old new
  scope_more x old mid new ms fs e r = r.scope ∙ ap (λ (s : Scope). boxing s new) e

  pub arrays_more : (x : List ℕ) (old mid new : Scope) (ms fs : List (String Z × ArrayInfo)) →
      mid.arrays ≡ old.arrays + length (boxed_in mid) → IsBoxed x mid new ms fs →
      new.arrays ≡ old.arrays + length (boxed_in new)
  arrays_more x old mid new ms fs e r =
      let size : length (boxed_in new) ≡ length (boxed_in mid) + 1 =
      ap (λ (xs : List (List ℕ)). length xs) (past_more x mid new ms fs r) ∙ length-append (boxed_in mid) (x ∷ []) in
      omega (arith, e, r.arrays, size)

  pub boxes_more : (x : List ℕ) (old mid new : Scope) (ms fs : List (String Z × ArrayInfo)) →
      mid.arrays ≡ old.arrays + length (boxed_in mid) → box_numbers mid ≡ numbered_from old.arrays (boxed_in mid) →
      IsBoxed x mid new ms fs → box_numbers new ≡ numbered_from old.arrays (boxed_in new)
  boxes_more x old mid new ms fs e g r =
      r.boxes ∙ ap (λ (bs : List (List ℕ × ℕ)). bs ++ (x, mid.arrays) ∷ []) g
      ∙ ap (λ (n : ℕ). numbered_from old.arrays (boxed_in mid) ++ (x, n) ∷ []) e
      ∙ sym (numbered_more old.arrays (boxed_in mid) x)
      ∙ ap (λ (xs : List (List ℕ)). numbered_from old.arrays xs) (sym (past_more x mid new ms fs r))

-- ---- the machine at the line

-- where it stands for the boxed scalars it breaks no rule
fine : (c : Context) (ts : List Lexeme) (n : Terminal) (r : Rule) → is_boxing ts ≡ true →
    breaks r c (Line ts, for BoxesAct) n ≡ false
unfolding breaks
fine c ts n r h = part r.part r.code
  where
    part : (k : ℕ) (code : Code) → breaks_part k code c (Line ts) BoxesAct n ≡ false
    part zero Unexpected = refl
    part zero _ = refl
    part (suc zero) code = and_right (is_faulty code (Line ts)) (not (is_boxing ts)) (ap not h)
    part (suc (suc k)) code = and_right (misuses code c k (Line ts)) (not (is_boxing ts)) (ap not h)

none_first : (c : Context) (ts : List Lexeme) (n : Terminal) → is_boxing ts ≡ true →
    first_broken c (Line ts, for BoxesAct) n ≡ None
none_first c ts n h = go (first_broken c (Line ts, for BoxesAct) n) refl
  where
    go : (o : Option Rule) → first_broken c (Line ts, for BoxesAct) n ≡ o → o ≡ None
    go None e = refl
    go (Some r) e =
        (let broken : breaks r c (Line ts, for BoxesAct) n ≡ true =
        (some_broken c (Line ts, for BoxesAct) n r e).broken in
        let kept : breaks r c (Line ts, for BoxesAct) n ≡ false = fine c ts n r h in cc)

item_boxes : (c : Context) (s : Stack) (i : Item Terminal) (is : Items) (ts : List Lexeme) → is_boxing ts ≡ true →
    run c (Globals ∷ s) (put i (Line ts) ∷ is) ≡ run (enter c (Line ts, for BoxesAct)) (w Int ∷ main_rest s) is
unfolding run machine_run advance
item_boxes c s i is ts h = rw (h, none_first c ts (next_of source_grammar is) h) refl

visible_some : (o : Option Meaning) → is_visible (option_map sort_of_meaning o) ≡ is_some o
visible_some None = refl
visible_some (Some m) = refl

-- the names that are visible for the machine are those that mean something
visible : Scope → List ℕ → Bool
visible s x = is_visible (sort_of (context_of s 0 0) x)

meant : Scope → List ℕ → Bool
meant s x = is_some (meaning_of (names_of s) x)

known_same : (s : Scope) → visible s ≡ meant s
unfolding visible meant
known_same s = fun_ext (λ x. ap is_visible (sym (sort_is s 0 0 x (meaning_of (names_of s) x) refl))
    ∙ visible_some (meaning_of (names_of s) x))

abbrev with_boxed : Context → List (List ℕ × ℕ) → ℕ → Context
with_boxed c bs n = record c { boxes = bs; arrays = n }

abbrev with_names : Context → List (List ℕ) → Context
with_names c xs = with_boxed c (numbered_from c.arrays xs) (c.arrays + length xs)

abbrev front_by : Scope → ℕ → List (List ℕ × ℕ) → Front
front_by s n bs = record { arrays = n; env = record (env_of s) { boxes = as_boxes bs } }

module _ {Z : Type 0} where
  entered : (old new : Scope) (ts : List Lexeme) (es fs : List (String Z × ArrayInfo)) →
      AreBoxed (boxed_names ts) old new es fs → enter (context_of old 0 0) (Line ts, for BoxesAct) ≡ context_of new 0 0
  unfolding enter visible meant
  entered old new ts es fs r =
      let c : Context = context_of old 0 0 in
      ap (λ (k : List ℕ → Bool). with_names c (fresh_names k (max_arrays - old.arrays) [] (boxed_names ts)))
      (known_same old)
      ∙ ap (λ (n : ℕ). with_boxed c (numbered_from old.arrays (boxed_of old (boxed_names ts))) n) (sym r.arrays)
      ∙ ap (λ (bs : List (List ℕ × ℕ)). with_boxed c bs new.arrays) (sym r.boxes)
      ∙ ap (λ (s : Scope). context_of s 0 0) (sym r.scope)

  pub go_boxes : (old new : Scope) (s : Stack) (xs : List (List ℕ)) (es fs : List (String Z × ArrayInfo))
      (t t' : Cursor) → is_boxes_line (first_item t).terminal ≡ true → xs ≡ names_on (first_item t).terminal →
      behind t ≡ items t' → AreBoxed xs old new es fs →
      run (context_of old 0 0) (Globals ∷ s) (items t) ≡ run (context_of new 0 0) (w Int ∷ main_rest s) (items t')
  go_boxes old new s xs es fs t t' h e b r =
      let l : HasLine (first_item t).terminal = line_of (first_item t).terminal h in
      let q : AreBoxed (boxed_names l.line) old new es fs =
      subst (λ (ys : List (List ℕ)). AreBoxed ys old new es fs) (e ∙ ap names_on l.is) r in
      ap (λ (i : Item Terminal). run (context_of old 0 0) (Globals ∷ s) (i ∷ behind t))
      (put_is (first_item t) (Line l.line) l.is)
      ∙ item_boxes (context_of old 0 0) s (first_item t) (behind t) l.line l.words
      ∙ ap (λ (c : Context). run c (w Int ∷ main_rest s) (behind t)) (entered old new l.line es fs q)
      ∙ ap (run (context_of new 0 0) (w Int ∷ main_rest s)) b

  -- ---- what was read

  pub read_boxes : (old new : Scope) (xs : List (List ℕ)) (es fs : List (String Z × ArrayInfo)) (t t' : Cursor) →
      is_boxes_line (first_item t).terminal ≡ true → xs ≡ names_on (first_item t).terminal → behind t ≡ items t' →
      AreBoxed xs old new es fs → AreBoxesRead old new es fs (items t) (items t')
  read_boxes old new xs es fs t t' h e b r =
      let l : HasLine (first_item t).terminal = line_of (first_item t).terminal h in
      let q : AreBoxed (boxed_names l.line) old new es fs =
      subst (λ (ys : List (List ℕ)). AreBoxed ys old new es fs) (e ∙ ap names_on l.is) r in
      record {
        line = Some l.line;
        are = l.words;
        tokens = first_then (Line l.line) t t' l.is b;
        rest = sym b;
        front = ap front_of q.scope
            ∙ ap (λ (n : ℕ). front_by old n (box_numbers new)) q.arrays
            ∙ ap (front_by old (old.arrays + length (boxed_of old (boxed_names l.line)))) q.boxes;
        still = record {
          target = ap (λ (s : Scope). s.target) q.scope;
          choice = ap (λ (s : Scope). s.choice) q.scope;
          always = ap (λ (s : Scope). under_if (context_of s 0 0)) q.scope;
        };
        entries = q.entries;
      }
