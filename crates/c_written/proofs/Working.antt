-- Constants that are worked out, one token after another.
use Rattle.std.proofs.Common.{◌≡◌, ◌∙◌, Bor, ℕ, zero, suc, ◌-◌, ◌<◌, ◌≤◌, Bool, true, false, List, [], ◌∷◌, ◌++◌, length, Option, Some, None, Result, Ok, Err, OnOk, refl, sym, ap, append_assoc, arith}
use Rattle.std.proofs.lemmas.List.{append-nil}
use Rattle.c_grammar.specs.Lexeme.{Lexeme, Placed}
use Rattle.c_grammar.specs.Terminal.{Terminal, Fixed, Mark, Name, Num, Line, Unknown, Unworked, End}
use Rattle.c_grammar.specs.Lines.{is_omp}
use Rattle.c_grammar.specs.Texts.{Item}
use Rattle.c_grammar.specs.Blocks.{Items, bare, is_directive}
use Rattle.c_grammar.specs.Expressions.{Values, Nothing, Worked, Number, expression, put}
use Rattle.c_grammar.specs.Clauses.{clauses_in_full}
use Rattle.c_grammar.specs.LineForms.{line_in_full}
use Rattle.c_grammar.specs.Constants.{Defines, Misdefines, Onward, at_wanted, behind_two, definition, ended_constant, declared, expressed, front_two, goes_on, lengths, line_tokens, put_item, wanted, with_terminal, with_tokens, worked}
use Rattle.directives.specs.declared.line_tokens.LineTokens.{LineTokens}
use Rattle.directives.specs.Ahead.{seen_line}
use Rattle.directives.specs.Spells.{kinds_of, columns_of}
use Rattle.c_terminals.specs.declared.token.Terminal.{Terminal as Given}
use Rattle.c_terminals.specs.declared.token.Terminal.TheVariants as given
use Rattle.c_terminals.specs.declared.token.Token.{Token}
use Rattle.c_terminals.specs.declared.held.Written.{Written}
use Rattle.c_written.specs.declared.constants.Constants.{Constants}
use Rattle.c_terminals.specs.Seen.{columns_in, item_at, seen, seen_all, seen_terminal}
use Rattle.c_terminals.specs.Held.{seen_written, written_all}
use Rattle.c_written.specs.Values.{seen_values}
use Rattle.c_written.specs.Past.{past_of}
use Rattle.c_written.specs.Constants.{behind, with_constants}
use Rattle.c_terminals.proofs.Placing.{placed_again}
use Rattle.c_terminals.proofs.Owning.{held_more}

pub worked_end : (vs : Values) (past : List Terminal) (k : ℕ) → worked vs past k [] ≡ []
unfolding worked
worked_end vs past k = refl

pub worked_line : (vs : Values) (past : List Terminal) (k : ℕ) (i : Item Terminal) (is : Items) → is_directive i.terminal ≡ true →
    worked vs past k (i ∷ is) ≡ put_item vs past i i.terminal ∷ worked vs past k is
unfolding worked
worked_line vs past k i is e = rw e refl

pub worked_left : (vs : Values) (past : List Terminal) (k : ℕ) (i : Item Terminal) (is : Items) →
    is_directive i.terminal ≡ false → 0 < k → worked vs past k (i ∷ is) ≡ worked vs past (k - 1) is
unfolding worked
worked_left vs past zero i is e h = absurd (omega arith)
worked_left vs past (suc k) i is e h =
    let less : k ≡ suc k - 1 = omega arith in rw e (ap (λ (n : ℕ). worked vs past n is) less)

pub worked_defines : (vs : Values) (past : List Terminal) (k : ℕ) (i : Item Terminal) (is : Items) (x : List ℕ) (n : ℕ) →
    is_directive i.terminal ≡ false → k ≤ 0 → Some (Defines x n) ≡ definition vs i i.terminal →
    worked vs past k (i ∷ is) ≡ worked ((x, n) ∷ vs) past k is
unfolding worked
worked_defines vs past zero i is x n e h d = rw (e, sym d) refl
worked_defines vs past (suc k) i is x n e h d = absurd (omega arith)

pub worked_misdefines : (vs : Values) (past : List Terminal) (k : ℕ) (i : Item Terminal) (is : Items) (p : Item Terminal) →
    is_directive i.terminal ≡ false → k ≤ 0 → Some (Misdefines p) ≡ definition vs i i.terminal →
    worked vs past k (i ∷ is) ≡ goes_on vs past (with_terminal p Unworked) 0 (behind is)
unfolding worked
worked_misdefines vs past zero i is p e h d = rw (e, sym d) refl
worked_misdefines vs past (suc k) i is p e h d = absurd (omega arith)

pub worked_other : (vs : Values) (past : List Terminal) (k : ℕ) (i : Item Terminal) (is : Items) →
    is_directive i.terminal ≡ false → k ≤ 0 → None ≡ definition vs i i.terminal →
    worked vs past k (i ∷ is) ≡ expressed vs past i (at_wanted vs (i ∷ bare is) (wanted past)) (behind is)
unfolding worked
worked_other vs past zero i is e h d = rw (e, sym d) refl
worked_other vs past (suc k) i is e h d = absurd (omega arith)

-- ---- the tokens that are written

pub written_more : (ds es : List Written) (w : Written) (i : Item Terminal) (is : Items) → es ≡ ds ++ w ∷ [] → seen_written w ≡ i →
    written_all ds ++ (i ∷ is) ≡ written_all es ++ is
written_more ds es w i is e f =
    ap (λ (j : Item Terminal). written_all ds ++ (j ∷ is)) (sym f)
    ∙ sym (append_assoc (written_all ds) (seen_written w ∷ []) is)
    ∙ ap (λ (ks : Items). ks ++ is) (sym (held_more ds w))
    ∙ ap (λ (vs : List Written). written_all vs ++ is) (sym e)

pub all_written : (c : Constants) (ts : List Token) (js : Items) → length ts < 1 → with_constants c (seen_all ts) ≡ js →
    written_all c.done.items ≡ js
all_written c [] js h e =
    sym (append-nil (written_all c.done.items))
    ∙ ap (λ (is : Items). written_all c.done.items ++ is) (sym (worked_end _ _ _)) ∙ e
all_written c (t ∷ ts) js h e = absurd (omega arith)

-- the token goes on
pub went_on : {X Y : Type 0} (res : Result X Y) (vs : Values) (past : List Terminal) (i : Item Terminal) (k : ℕ)
    (ds : List Written) (new : Constants) (w : Written) → seen_written w ≡ i → new.done.items ≡ ds ++ w ∷ [] →
    OnOk res (seen_values new.values ≡ ended_constant vs (i.terminal ∷ past)) →
    OnOk res (past_of new.past ≡ i.terminal ∷ past) → new.left ≡ k →
    OnOk res ((is : Items) → written_all ds ++ goes_on vs past i k (behind is) ≡ with_constants new is)
went_on (Err x) vs past i k ds new w e d a b l = tt
went_on (Ok x) vs past i k ds new w e d a b l =
    λ is. written_more ds new.done.items w i (behind is (ended_constant vs (i.terminal ∷ past)) (i.terminal ∷ past) k) d e
    ∙ ap (λ (us : Values). written_all new.done.items ++ worked us (i.terminal ∷ past) k is) (sym a)
    ∙ ap (λ (ts : List Terminal). written_all new.done.items ++ worked (seen_values new.values) ts k is) (sym b)
    ∙ ap (λ (n : ℕ). written_all new.done.items ++ worked (seen_values new.values) (past_of new.past) n is) (sym l)

-- ---- a token by itself

pub put_plain : (vs : Values) (past : List Terminal) (i : Item Terminal) (t : Terminal) → is_directive t ≡ false →
    i.terminal ≡ t → put_item vs past i t ≡ with_terminal i (put vs t)
put_plain vs past i (Fixed w) e f = refl
put_plain vs past i (Mark s) e f = refl
put_plain vs past i (Name x) e f = refl
put_plain vs past i (Num n) e f = refl
put_plain vs past i (Line ts) e f = rw e (ap (with_terminal i) f)
put_plain vs past i Unknown e f = refl
put_plain vs past i Unworked e f = refl
put_plain vs past i End e f = refl

-- ---- a line

in_order : (vs : Values) (past : List Terminal) (ps : List Placed) → is_omp (kinds_of ps) ≡ true →
    (front_two (kinds_of ps) ++ kinds_of (behind_two (line_tokens vs past ps))) ≡ kinds_of (line_tokens vs past ps)
unfolding is_omp
in_order vs past [] e = absurd cc
in_order vs past (p ∷ []) e = absurd cc
in_order vs past (p ∷ q ∷ ps) e = refl

abbrev line_item : Token → List Placed → Item Terminal
line_item t ps = record { terminal = Line (kinds_of ps); line = t.line; column = t.column; columns = columns_of ps }

put_line : (vs : Values) (past : List Terminal) (t : Token) (ps : List Placed) → is_omp (kinds_of ps) ≡ true →
    put_item vs past (line_item t ps) (Line (kinds_of ps)) ≡ line_item t (line_tokens vs past ps)
put_line vs past t ps e =
    rw e (ap (λ (qs : List Placed). with_tokens (line_item t ps) (kinds_of ps) (line_tokens vs past qs)) (placed_again ps)
    ∙ ap (λ (ts : List Lexeme). record {
      terminal = Line ts;
      line = t.line;
      column = t.column;
      columns = columns_of (line_tokens vs past ps);
    }) (in_order vs past ps e))

-- a directive line is its tokens in full
pub line_put : (vs : Values) (past : List Terminal) (t : Token) (l : Bor LineTokens) (qs : List Placed) → t.terminal ≡ given.Line l →
    is_directive (seen_terminal t.terminal) ≡ true → qs ≡ line_tokens vs past (seen_line l.now) →
    line_item t qs ≡ put_item vs past (seen t) (seen_terminal t.terminal)
line_put vs past t l qs e d g =
    let omp = sym (ap (λ (g : Given). is_directive (seen_terminal g)) e) ∙ d in
    ap (line_item t) g ∙ sym (put_line vs past t (seen_line l.now) omp)
    ∙ sym (ap (λ (g : Given). put_item vs past (item_at t g) (seen_terminal g)) e)

-- by what is declared before it
pub line_noted : (vs ls : Values) (ns : List (List ℕ)) (past : List Terminal) (ps qs rs : List Placed) → ls ≡ lengths past →
    ns ≡ declared past → qs ≡ clauses_in_full ns ls ps → rs ≡ line_in_full vs ls qs → rs ≡ line_tokens vs past ps
line_noted vs ls ns past ps qs rs e f g h =
    h ∙ ap (line_in_full vs ls) g
    ∙ ap (λ (ms : List (List ℕ)). line_in_full vs ls (clauses_in_full ms ls ps)) f
    ∙ ap (λ (ms : Values). line_in_full vs ms (clauses_in_full (declared past) ms ps)) e

-- ---- an expression

no_columns : (vs : Values) (single : Bool) (t : Token) (g : Given) (is : Items) (k n : ℕ) →
    expression vs single Nothing [] 0 (item_at t g ∷ is) ≡ Some (Number k n) → columns_in g ≡ []
unfolding expression
no_columns vs single t (given.Word w) is k n e = refl
no_columns vs single t (given.Sign s) is k n e = refl
no_columns vs single t (given.Name x) is k n e = refl
no_columns vs single t (given.Number m) is k n e = refl
no_columns vs single t given.BadNumber is k n e = refl
no_columns vs single t (given.Line l) is k n e = absurd cc
no_columns vs single t given.Unknown is k n e = refl
no_columns vs single t given.Unworked is k n e = refl

no_columns_at : (vs : Values) (o : Option Bool) (t : Token) (is : Items) (k n : ℕ) →
    at_wanted vs (seen t ∷ is) o ≡ Some (Number k n) → columns_in t.terminal ≡ []
no_columns_at vs None t is k n e = absurd cc
no_columns_at vs (Some single) t is k n e = no_columns vs single t t.terminal is k n e

-- its number stands for the token
pub number_item : (vs : Values) (o : Option Bool) (t : Token) (is js : Items) (k n : ℕ) → is ≡ seen t ∷ js →
    Some (Number k n) ≡ at_wanted vs is o → item_at t (given.Number n) ≡ with_terminal (seen t) (Num (Some n))
number_item vs o t is js k n e f =
    ap (λ (cs : List ℕ). record { terminal = Num (Some n); line = t.line; column = t.column; columns = cs })
    (sym (no_columns_at vs o t js k n (ap (λ (ks : Items). at_wanted vs ks o) (sym e) ∙ sym f)))

pub expressed_number : (vs : Values) (past : List Terminal) (i j : Item Terminal) (w : Option Worked) (k n m : ℕ) (go : Onward) →
    Some (Number k n) ≡ w → j ≡ with_terminal i (Num (Some n)) → m ≡ k - 1 →
    expressed vs past i w go ≡ goes_on vs past j m go
expressed_number vs past i j w k n m go e f g =
    ap (λ (x : Option Worked). expressed vs past i x go) (sym e)
    ∙ ap (λ (x : Item Terminal). goes_on vs past x (k - 1) go) (sym f)
    ∙ ap (λ (x : ℕ). goes_on vs past j x go) (sym g)

pub bare_other : (i : Item Terminal) (is : Items) → is_directive i.terminal ≡ false → bare (i ∷ is) ≡ i ∷ bare is
bare_other i is e = rw e refl
