-- The machine at a name with which a statement begins.
use Rattle.std.proofs.Common.{◌≡◌, ℕ, ◌<◌, Bool, true, false, List, ◌∷◌, length, Option, Some, None, refl, sym, ap, ◌∙◌, arith}
use Rattle.std.specs.Prelude.{nat_lt, nat_le, ◌||◌}
use Rattle.std.specs.Option.{option_map}
use Rattle.std.proofs.lemmas.Bool.Decides.{nat_tests}
use Rattle.std.proofs.lemmas.Bool.{or_parts}
use Rattle.c_tokens.specs.declared.kind.Sign.TheVariants as sign
use Rattle.base.specs.declared.tree.Place.{Place}
use Rattle.base.specs.declared.fault.ReadCode.{ReadCode as Code}
use Rattle.base.specs.declared.fault.ReadCode.TheVariants.{Unexpected}
use Rattle.base.specs.declared.fault.TextFault.{TextFault}
use Rattle.c_grammar.specs.LineRules.{max_name}
use Rattle.c_grammar.specs.Terminal.{Terminal, Mark, Name, same}
use Rattle.c_grammar.specs.Texts.{Item, next_of}
use Rattle.c_grammar.specs.Grammar.{Assigned, for}
use Rattle.c_grammar.specs.Rules.{Context, Sort, AnArray, AScalar, ABoxed, ALoop, breaks, enter, begun, out, inside, sort_of, rule_here, max_statements, source_grammar}
use Rattle.c_grammar.specs.Program.{Stack, AfterName, Value, Atom, Tail, m, advance, place_code, first_broken}
use Rattle.c_expressions.specs.declared.cursor.Cursor.{Cursor}
use Rattle.c_expressions.specs.declared.scope.Meaning.{Meaning}
use Rattle.c_expressions.specs.declared.scope.Meaning.TheVariants as meaning
use Rattle.c_expressions.specs.declared.scope.Scope.{Scope}
use Rattle.c_expressions.specs.Means.{Items, place_of}
use Rattle.c_expressions.specs.Cursor.{items, first_item, behind}
use Rattle.c_expressions.specs.Reading.{run, took, fault_at, misfit_at}
use Rattle.c_expressions.specs.Scopes.{context_of, sort_of_meaning}
use Rattle.c_expressions.proofs.Going.{put, put_is, stop}
use Rattle.c_expressions.proofs.Terms.{same_run}
use Rattle.c_statements.specs.Simple.{counted, assign_code, code_at, is_over, IsKept}

-- ---- the name

assigned_by : Context → Stack → Item Terminal → Items → Option Code → Option TextFault
assigned_by c s i is None = run (begun (out c)) s is
assigned_by c s i is (Some code) = Some (fault_at i code)

item_assigned : (c : Context) (s : Stack) (x : List ℕ) (i : Item Terminal) (is : Items) (o : Option Sort)
    (p q over w : Bool) → o ≡ sort_of c x → p ≡ same (Mark sign.Equal) (next_of source_grammar is) → q ≡
    same (Mark sign.OpenBracket) (next_of source_grammar is) → over ≡
    (nat_lt max_name (length x) || nat_le max_statements c.statements) → w ≡ inside c →
    took c (for Assigned) s (put i (Name x) ∷ is) ≡ assigned_by c s i is (assign_code o p q over w)
unfolding took run first_broken breaks enter assigned_by
item_assigned c s x i is None p q over w e f g h k = rw (sym e) refl
item_assigned c s x i is (Some AnArray) true q over w e f g h k = rw (sym e, sym f) refl
item_assigned c s x i is (Some AnArray) false true true w e f g h k = rw (sym e, sym f, sym g, sym h) refl
item_assigned c s x i is (Some AnArray) false true false w e f g h k = rw (sym e, sym f, sym g, sym h) refl
item_assigned c s x i is (Some AnArray) false false true w e f g h k = rw (sym e, sym f, sym g, sym h) refl
item_assigned c s x i is (Some AnArray) false false false w e f g h k = rw (sym e, sym f, sym g, sym h) refl
item_assigned c s x i is (Some ALoop) true true over w e f g h k = rw (sym e, sym f, sym g) refl
item_assigned c s x i is (Some ALoop) false true over w e f g h k = rw (sym e, sym f, sym g) refl
item_assigned c s x i is (Some ALoop) true false over w e f g h k = rw (sym e, sym f, sym g) refl
item_assigned c s x i is (Some ALoop) false false true w e f g h k = rw (sym e, sym f, sym g, sym h) refl
item_assigned c s x i is (Some ALoop) false false false w e f g h k = rw (sym e, sym f, sym g, sym h) refl
item_assigned c s x i is (Some ABoxed) true true over w e f g h k = rw (sym e, sym f, sym g) refl
item_assigned c s x i is (Some ABoxed) false true over w e f g h k = rw (sym e, sym f, sym g) refl
item_assigned c s x i is (Some ABoxed) true false true w e f g h k = rw (sym e, sym f, sym g, sym h) refl
item_assigned c s x i is (Some ABoxed) false false true w e f g h k = rw (sym e, sym f, sym g, sym h) refl
item_assigned c s x i is (Some ABoxed) false false false w e f g h k = rw (sym e, sym f, sym g, sym h) refl
item_assigned c s x i is (Some ABoxed) true false false false e f g h k = rw (sym e, sym f, sym g, sym h, sym k) refl
item_assigned c s x i is (Some ABoxed) true false false true e f g h k = rw (sym e, sym f, sym g, sym h, sym k) refl
item_assigned c s x i is (Some (AScalar j)) true true over w e f g h k = rw (sym e, sym f, sym g) refl
item_assigned c s x i is (Some (AScalar j)) false true over w e f g h k = rw (sym e, sym f, sym g) refl
item_assigned c s x i is (Some (AScalar j)) true false true w e f g h k = rw (sym e, sym f, sym g, sym h) refl
item_assigned c s x i is (Some (AScalar j)) false false true w e f g h k = rw (sym e, sym f, sym g, sym h) refl
item_assigned c s x i is (Some (AScalar j)) false false false w e f g h k = rw (sym e, sym f, sym g, sym h) refl
item_assigned c s x i is (Some (AScalar j)) true false false false e f g h k = rw
    (sym e, sym f, sym g, sym h, sym k) refl
item_assigned c s x i is (Some (AScalar true)) true false false true e f g h k = rw
    (sym e, sym f, sym g, sym h, sym k) refl
item_assigned c s x i is (Some (AScalar false)) true false false true e f g h k = rw
    (sym e, sym f, sym g, sym h, sym k) refl

name_begins : (sc : Scope) (s : Stack) (x : List ℕ) (o : Option Sort) (t t' : Cursor) (r : Option Code) →
    (first_item t).terminal ≡ Name x → behind t ≡ items t' → o ≡ sort_of (context_of sc 0 0) x →
    code_at sc x o (first_item t').terminal ≡ r → took (context_of sc 0 0) (for Assigned) s (items t) ≡
    assigned_by (context_of sc 0 0) s (first_item t) (items t') r
name_begins sc s x o t t' r e b f a =
    ap (λ (i : Item Terminal). took (context_of sc 0 0) (for Assigned) s (i ∷ behind t))
    (put_is (first_item t) (Name x) e) ∙ ap (λ (is : Items). took (context_of sc 0 0) (for Assigned) s
    (put (first_item t) (Name x) ∷ is)) b
    ∙ item_assigned (context_of sc 0 0) s x (first_item t) (items t') o
    (same (Mark sign.Equal) (first_item t').terminal) (same (Mark sign.OpenBracket) (first_item t').terminal)
    (is_over sc x) (inside (context_of sc 0 0)) f refl refl refl refl
    ∙ ap (assigned_by (context_of sc 0 0) s (first_item t) (items t')) a

pub bad_assigned : (sc : Scope) (s : Stack) (x : List ℕ) (o : Option Sort) (t t' : Cursor) (place : Place)
    (code : Code) → (first_item t).terminal ≡ Name x → behind t ≡ items t' → o ≡ sort_of (context_of sc 0 0) x →
    place ≡ place_of (items t) → code_at sc x o (first_item t').terminal ≡ Some code →
    took (context_of sc 0 0) (for Assigned) s (items t) ≡
    Some (record { code = code; line = place.line; column = place.column })
unfolding assigned_by
bad_assigned sc s x o t t' place code e b f w a = name_begins sc s x o t t' (Some code) e b f a
    ∙ ap (λ (u : Place). Some (record { code = code; line = u.line; column = u.column })) (sym w)

pub go_assigned : (sc : Scope) (s : Stack) (x : List ℕ) (o : Option Sort) (t t' : Cursor) →
    (first_item t).terminal ≡ Name x → behind t ≡ items t' → o ≡ sort_of (context_of sc 0 0) x →
    code_at sc x o (first_item t').terminal ≡ None → took (context_of sc 0 0) (for Assigned) s (items t) ≡
    run (context_of (counted sc) 0 0) s (items t')
unfolding assigned_by
go_assigned sc s x o t t' e b f a = name_begins sc s x o t t' None e b f a

pub go_meant : (sc : Scope) (s : Stack) (x : List ℕ) (o : Option Meaning) (t t' : Cursor) →
    (first_item t).terminal ≡ Name x → behind t ≡ items t' → option_map sort_of_meaning o ≡
    sort_of (context_of sc 0 0) x → code_at sc x (option_map sort_of_meaning o) (first_item t').terminal ≡ None →
    took (context_of sc 0 0) (for Assigned) s (items t) ≡ run (context_of (counted sc) 0 0) s (items t')
go_meant sc s x o t t' e b f a = go_assigned sc s x (option_map sort_of_meaning o) t t' e b f a

-- ---- a name without a fault

pub kept_of : (o : Option Meaning) (p q over w : Bool) → assign_code (option_map sort_of_meaning o) p q over w ≡
    None → IsKept o p q
kept_of None p q over w e = absurd cc
kept_of (Some (meaning.Array a)) true q over w e = absurd cc
kept_of (Some (meaning.Array a)) false q over w e = refl
kept_of (Some (meaning.Loop n)) p true over w e = absurd cc
kept_of (Some (meaning.Loop n)) true false over w e = absurd cc
kept_of (Some (meaning.Loop n)) false false over w e = (refl, refl)
kept_of (Some (meaning.Boxed a n)) p true over w e = absurd cc
kept_of (Some (meaning.Boxed a n)) p false over w e = refl
kept_of (Some (meaning.Scalar n i)) p true over w e = absurd cc
kept_of (Some (meaning.Scalar n i)) p false over w e = refl

within_limits : (o : Option Sort) (p q over w : Bool) → assign_code o p q over w ≡ None → over ≡ false
within_limits None p q over w e = absurd cc
within_limits (Some AnArray) true q over w e = absurd cc
within_limits (Some AnArray) false q true w e = absurd cc
within_limits (Some AnArray) false q false w e = refl
within_limits (Some ALoop) p true over w e = absurd cc
within_limits (Some ALoop) true false over w e = absurd cc
within_limits (Some ALoop) false false true w e = absurd cc
within_limits (Some ALoop) false false false w e = refl
within_limits (Some ABoxed) p true over w e = absurd cc
within_limits (Some ABoxed) p false true w e = absurd cc
within_limits (Some ABoxed) p false false w e = refl
within_limits (Some (AScalar i)) p true over w e = absurd cc
within_limits (Some (AScalar i)) p false true w e = absurd cc
within_limits (Some (AScalar i)) p false false w e = refl

pub few_assigned : (sc : Scope) (x : List ℕ) (o : Option Sort) (next : Terminal) → code_at sc x o next ≡ None →
    sc.statements < max_statements
few_assigned sc x o next e =
    let over : is_over sc x ≡ false = within_limits o (same (Mark sign.Equal) next)
    (same (Mark sign.OpenBracket) next) (is_over sc x) (inside (context_of sc 0 0)) e in
    let few : nat_le max_statements sc.statements ≡ false = (or_parts (nat_lt max_name (length x))
    (nat_le max_statements sc.statements) over).1 in
    grind (arith, nat_tests)

-- ---- behind the name

array_step : (s : Stack) (t : Terminal) → same (Mark sign.Equal) t ≡ false → advance (AfterName ∷ s) t ≡
    advance (m sign.OpenBracket ∷ Atom ∷ Tail 9 ∷ m sign.CloseBracket ∷ m sign.Equal ∷ Value ∷ m sign.Semicolon ∷ s) t
unfolding advance
array_step s t e = rw e refl

scalar_step : (s : Stack) (t : Terminal) → same (Mark sign.OpenBracket) t ≡ false → advance (AfterName ∷ s) t ≡
    advance (m sign.Equal ∷ Value ∷ m sign.Semicolon ∷ s) t
unfolding advance
scalar_step s t e = rw e refl

no_step : (s : Stack) (t : Terminal) → same (Mark sign.Equal) t ≡ false → same (Mark sign.OpenBracket) t ≡ false →
    advance (AfterName ∷ s) t ≡ None
unfolding advance
no_step s t e f = rw (e, f) refl

pub array_name : (c : Context) (s : Stack) (t : Cursor) → same (Mark sign.Equal) (first_item t).terminal ≡ false →
    run c (AfterName ∷ s) (items t) ≡ run c (m sign.OpenBracket ∷ Atom ∷ Tail 9 ∷ m sign.CloseBracket ∷ m sign.Equal
    ∷ Value ∷ m sign.Semicolon ∷ s) (items t)
unfolding place_code
array_name c s t e = same_run c (AfterName ∷ s) (m sign.OpenBracket ∷ Atom ∷ Tail 9 ∷ m sign.CloseBracket ∷
    m sign.Equal ∷ Value ∷ m sign.Semicolon ∷ s) (first_item t) (behind t) (array_step s (first_item t).terminal e) refl

pub scalar_name : (c : Context) (s : Stack) (t : Cursor) → same (Mark sign.OpenBracket) (first_item t).terminal ≡
    false → run c (AfterName ∷ s) (items t) ≡ run c (m sign.Equal ∷ Value ∷ m sign.Semicolon ∷ s) (items t)
unfolding place_code
scalar_name c s t e = same_run c (AfterName ∷ s) (m sign.Equal ∷ Value ∷ m sign.Semicolon ∷ s) (first_item t)
    (behind t) (scalar_step s (first_item t).terminal e) refl

pub stop_name : (c : Context) (s : Stack) (t : Cursor) → same (Mark sign.Equal) (first_item t).terminal ≡ false →
    same (Mark sign.OpenBracket) (first_item t).terminal ≡ false → run c (AfterName ∷ s) (items t) ≡
    Some (misfit_at (Some (rule_here Unexpected)) (first_item t))
unfolding place_code
stop_name c s t e f = stop c (AfterName ∷ s) (first_item t) (behind t) (no_step s (first_item t).terminal e f) refl
