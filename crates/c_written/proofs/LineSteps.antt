-- A directive line in full, one token after another.
use Rattle.std.proofs.Common.{◌≡◌, ◌∙◌, ℕ, zero, suc, ◌-◌, ◌<◌, ◌≤◌, true, false, List, [], ◌∷◌, ◌++◌, length, Option, Some, None, refl, sym, ap, append_assoc, arith}
use Rattle.std.specs.Prelude.{OnOk, Result, Ok, Err}
use Rattle.std.specs.Option.{option_map}
use Rattle.std.proofs.lemmas.List.{append-nil, map-append}
use Rattle.c_grammar.specs.Lexeme.{Lexeme, Numbered, Placed}
use Rattle.c_grammar.specs.Expressions.{Values, Number, as_items}
use Rattle.c_grammar.specs.LineForms.{is_separator, bound_at, onto, all_at, line_from}
use Rattle.directives.specs.declared.lexeme.PlacedLexeme.{PlacedLexeme}
use Rattle.c_terminals.specs.declared.token.Token.{Token}
use Rattle.c_written.specs.declared.line_forms.Forms.{Forms}
use Rattle.c_terminals.specs.Seen.{seen_all}
use Rattle.c_written.specs.Lines.{unended}
use Rattle.c_written.specs.Values.{seen_values}
use Rattle.c_written.specs.Forms.{all_placed, line_past, in_full, seen_bound, IsSameForm, with_line}

pub line_end : (vs ls : Values) (past : List Lexeme) (k : ℕ) → line_from vs ls past k [] ≡ []
unfolding line_from
line_end vs ls past k = refl

pub line_left : (vs ls : Values) (past : List Lexeme) (k : ℕ) (p : Placed) (ps : List Placed) → 0 < k →
    line_from vs ls past k (p ∷ ps) ≡ line_from vs ls past (k - 1) ps
unfolding line_from
line_left vs ls past zero p ps h = absurd (omega arith)
line_left vs ls past (suc k) p ps h =
    let less : k ≡ suc k - 1 = omega arith in ap (λ (n : ℕ). line_from vs ls past n ps) less

pub line_separator : (vs ls : Values) (past : List Lexeme) (k : ℕ) (p : Placed) (ps : List Placed) → k ≡ 0 →
    is_separator past p.lexeme ps ≡ true → line_from vs ls past k (p ∷ ps) ≡ line_from vs ls past k ps
unfolding line_from
line_separator vs ls past zero p ps h e = rw e refl
line_separator vs ls past (suc k) p ps h e = absurd (omega arith)

-- no constant expression stands there
by_bound : (vs ls : Values) (past : List Lexeme) (p : Placed) (ps : List Placed) (o : Option (ℕ × ℕ)) → o ≡ None →
    is_separator past p.lexeme ps ≡ false → option_map seen_bound o ≡ bound_at vs past (p ∷ ps) →
    line_from vs ls past 0 (p ∷ ps) ≡
    all_at p.column (in_full vs ls past p.lexeme) ++ line_from vs ls (onto (in_full vs ls past p.lexeme) past) 0 ps
unfolding line_from
by_bound vs ls past p ps (Some b) h e f = absurd cc
by_bound vs ls past p ps None h e f = rw (e, sym f) refl

pub line_plain : (vs ls : Values) (past : List Lexeme) (k : ℕ) (p : Placed) (ps : List Placed) (o : Option (ℕ × ℕ)) →
    k ≡ 0 → o ≡ None → is_separator past p.lexeme ps ≡ false → option_map seen_bound o ≡ bound_at vs past (p ∷ ps) →
    line_from vs ls past k (p ∷ ps) ≡
    all_at p.column (in_full vs ls past p.lexeme) ++ line_from vs ls (onto (in_full vs ls past p.lexeme) past) 0 ps
line_plain vs ls past zero p ps o h g e f = by_bound vs ls past p ps o g e f
line_plain vs ls past (suc k) p ps o h g e f = absurd (omega arith)

pub line_bound : (vs ls : Values) (past : List Lexeme) (k : ℕ) (p : Placed) (ps : List Placed) (n v : ℕ) → k ≡ 0 →
    is_separator past p.lexeme ps ≡ false → Some (Number n v) ≡ bound_at vs past (p ∷ ps) →
    line_from vs ls past k (p ∷ ps) ≡
    all_at p.column (Numbered (Some v) ∷ []) ++ line_from vs ls (onto (Numbered (Some v) ∷ []) past) (n - 1) ps
unfolding line_from
line_bound vs ls past zero p ps n v h e f = rw (e, sym f) refl
line_bound vs ls past (suc k) p ps n v h e f = absurd (omega arith)

-- ---- what is written

pub onto_more : (ts : List Lexeme) (x : Lexeme) (past : List Lexeme) → onto (ts ++ x ∷ []) past ≡ x ∷ onto ts past
onto_more [] x past = refl
onto_more (t ∷ ts) x past = onto_more ts x (t ∷ past)

pub all_more : (column : ℕ) (ds : List Placed) (ts : List Lexeme) (x : Lexeme) →
    (ds ++ all_at column ts) ++ all_at column (x ∷ []) ≡ ds ++ all_at column (ts ++ x ∷ [])
all_more column ds ts x =
    let at : Lexeme → Placed = λ t. record { lexeme = t; column = column } in
    append_assoc ds (all_at column ts) (all_at column (x ∷ []))
    ∙ ap (λ (ps : List Placed). ds ++ ps) (sym (map-append at ts (x ∷ [])))

same_line : (old new : Forms) (past : List Lexeme) (k : ℕ) (ps : List Placed) → IsSameForm old new → line_past new.past ≡ past →
    line_from (seen_values old.values.now) (seen_values old.lengths.now) past old.left ps ≡
    line_from (seen_values new.values.now) (seen_values new.lengths.now) (line_past new.past) new.left ps
same_line old new past k ps h e =
    ap (λ v. line_from (seen_values v) (seen_values old.lengths.now) past old.left ps) (sym h.values)
    ∙ ap (λ v. line_from (seen_values new.values.now) (seen_values v) past old.left ps) (sym h.lengths)
    ∙ ap (λ (n : ℕ). line_from (seen_values new.values.now) (seen_values new.lengths.now) past n ps) (sym h.left)
    ∙ ap (λ (ts : List Lexeme). line_from (seen_values new.values.now) (seen_values new.lengths.now) ts new.left ps) (sym e)

-- these tokens are written
pub with_more : {X Y : Type 0} (res : Result X Y) (old new : Forms) (column : ℕ) (ts : List Lexeme) (is ps : List Placed) →
    is ≡ all_at column ts ++
    line_from (seen_values old.values.now) (seen_values old.lengths.now) (onto ts (line_past old.past)) old.left ps →
    OnOk res (all_placed new.done.items ≡ all_placed old.done.items ++ all_at column ts) →
    OnOk res (line_past new.past ≡ onto ts (line_past old.past)) → OnOk res (IsSameForm old new) →
    OnOk res (all_placed old.done.items ++ is ≡ with_line new ps)
with_more (Err x) old new column ts is ps e d p s = tt
with_more (Ok x) old new column ts is ps e d p s =
    ap (λ (qs : List Placed). all_placed old.done.items ++ qs)
    (e ∙ ap (λ (qs : List Placed). all_at column ts ++ qs) (same_line old new (onto ts (line_past old.past)) 0 ps s p))
    ∙ sym (append_assoc (all_placed old.done.items) (all_at column ts)
    (line_from (seen_values new.values.now) (seen_values new.lengths.now) (line_past new.past) new.left ps))
    ∙ ap (λ (qs : List Placed). qs ++
    line_from (seen_values new.values.now) (seen_values new.lengths.now) (line_past new.past) new.left ps) (sym d)

pub past_more : {X Y : Type 0} (res : Result X Y) (old mid new ts : List Lexeme) (x y : Lexeme) → mid ≡ onto ts old → x ≡ y →
    OnOk res (new ≡ x ∷ mid) → OnOk res (new ≡ onto (ts ++ y ∷ []) old)
past_more (Err z) old mid new ts x y e f h = tt
past_more (Ok z) old mid new ts x y e f h =
    h ∙ ap (λ (us : List Lexeme). x ∷ us) e ∙ ap (λ (t : Lexeme). t ∷ onto ts old) f ∙ sym (onto_more ts y old)

-- ---- a token is taken

abbrev rest : Forms → ℕ → List Lexeme → List Placed → List Placed
rest f k past ps = line_from (seen_values f.values.now) (seen_values f.lengths.now) past k ps

pub took_left : (f : Forms) (p : Placed) (rs ps : List Placed) → rs ≡ p ∷ ps → 0 < f.left →
    with_line f rs ≡ all_placed f.done.items ++ rest f (f.left - 1) (line_past f.past) ps
took_left f p rs ps e h = ap (λ (qs : List Placed). all_placed f.done.items ++ qs)
    (ap (rest f f.left (line_past f.past)) e ∙ line_left _ _ _ _ p ps h)

pub took_separator : (f : Forms) (p : Placed) (rs ps : List Placed) → rs ≡ p ∷ ps → f.left ≤ 0 →
    is_separator (line_past f.past) p.lexeme ps ≡ true → with_line f rs ≡ with_line f ps
took_separator f p rs ps e h s = ap (λ (qs : List Placed). all_placed f.done.items ++ qs)
    (ap (rest f f.left (line_past f.past)) e ∙ line_separator _ _ _ _ p ps (omega arith) s)

pub took_bound : (f : Forms) (p : Placed) (rs ps : List Placed) (n v k : ℕ) → rs ≡ p ∷ ps → f.left ≤ 0 →
    is_separator (line_past f.past) p.lexeme ps ≡ false →
    Some (Number n v) ≡ bound_at (seen_values f.values.now) (line_past f.past) rs → k ≡ n - 1 →
    rest f f.left (line_past f.past) rs ≡
    all_at p.column (Numbered (Some v) ∷ []) ++ rest f k (onto (Numbered (Some v) ∷ []) (line_past f.past)) ps
took_bound f p rs ps n v k e h s b l =
    ap (rest f f.left (line_past f.past)) e
    ∙ line_bound _ _ _ _ p ps n v (omega arith) s (b ∙ ap (bound_at (seen_values f.values.now) (line_past f.past)) e)
    ∙ ap (λ (m : ℕ). all_at p.column (Numbered (Some v) ∷ []) ++ rest f m (Numbered (Some v) ∷ line_past f.past) ps) (sym l)

pub took_plain : (f : Forms) (p : Placed) (rs ps : List Placed) (o : Option (ℕ × ℕ)) → rs ≡ p ∷ ps → f.left ≤ 0 →
    is_separator (line_past f.past) p.lexeme ps ≡ false → o ≡ None →
    option_map seen_bound o ≡ bound_at (seen_values f.values.now) (line_past f.past) rs →
    rest f f.left (line_past f.past) rs ≡
    all_at p.column (in_full (seen_values f.values.now) (seen_values f.lengths.now) (line_past f.past) p.lexeme) ++
    rest f f.left (onto (in_full (seen_values f.values.now) (seen_values f.lengths.now) (line_past f.past) p.lexeme) (line_past f.past)) ps
took_plain f p rs ps o e h s n b =
    let none : f.left ≡ 0 = omega arith in
    let full : List Lexeme = in_full (seen_values f.values.now) (seen_values f.lengths.now) (line_past f.past) p.lexeme in
    ap (rest f f.left (line_past f.past)) e
    ∙ line_plain _ _ _ _ p ps o none n s (b ∙ ap (bound_at (seen_values f.values.now) (line_past f.past)) e)
    ∙ ap (λ (m : ℕ). all_at p.column full ++ rest f m (onto full (line_past f.past)) ps) (sym none)

-- ---- the end

pub line_done : (f : Forms) (rs : List PlacedLexeme) (qs : List Placed) → length rs < 1 → with_line f (all_placed rs) ≡ qs →
    all_placed f.done.items ≡ qs
line_done f [] qs h e = sym (append-nil (all_placed f.done.items))
    ∙ ap (λ (ps : List Placed). all_placed f.done.items ++ ps) (sym (line_end _ _ _ _)) ∙ e
line_done f (r ∷ rs) qs h e = absurd (omega arith)

pub token_there : (ts : List Token) (rs : List PlacedLexeme) → seen_all ts ≡ unended (as_items 0 (all_placed rs)) →
    1 ≤ length rs → 1 ≤ length ts
token_there ts [] e h = absurd (omega arith)
token_there [] (r ∷ rs) e h = absurd cc
token_there (t ∷ ts) (r ∷ rs) e h = omega arith
