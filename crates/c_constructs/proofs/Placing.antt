-- The number of an array's token by the column of its name.
use Rattle.std.proofs.Common.{◌≡◌, ℕ, zero, suc, ◌+◌, List, [], ◌∷◌, ◌++◌, length, map, drop, Option, Some, None, refl, sym, ap, ◌∙◌, append_assoc, subst, length-append, drop-drop}
use Rattle.c_tokens.specs.declared.kind.Sign.TheVariants as sign
use Rattle.base.specs.declared.fault.ReadCode.TheVariants.{BadBound}
use Rattle.c_grammar.specs.Lexeme.{Lexeme, Signed, Worded}
use Rattle.c_grammar.specs.LineGrammar as line
use Rattle.c_grammar.specs.Source.{nth}
use Rattle.directives.specs.declared.tree.Term.{Term}
use Rattle.directives.specs.declared.tree.Term.TheVariants.{Literal, Variable, Product}
use Rattle.directives.specs.declared.tree.SignedTerm.{SignedTerm}
use Rattle.directives.specs.declared.tree.Bound.{Bound}
use Rattle.directives.specs.declared.tree.Section.{Section}
use Rattle.directives.specs.declared.tree.Sections.{Sections}
use Rattle.directives.specs.Cursor.{Items}
use Rattle.directives.specs.Reading.{IsAt, Fits}
use Rattle.directives.specs.Trees.{Spelling, sign_mark, each_behind, term_of, signed_of, bound_of, bounds_of, section_of, sections_of, term_marks, terms_marks, bound_marks, second_marks, bounds_marks, section_marks, sections_marks}
use Rattle.c_constructs.specs.Sections.{Given, given, given_one}
use Rattle.c_constructs.specs.Written.{Written, written, written_more}

-- ---- how many tokens

pub len_two : {A : Type 0} → {B : Type 0} → (xs ys : List A) (us vs : List B) → length xs ≡ length us →
    length ys ≡ length vs → length (xs ++ ys) ≡ length (us ++ vs)
len_two xs ys us vs e f = length-append xs ys ∙ ap (λ (n : ℕ). n + length ys) e ∙ ap (λ (n : ℕ). length us + n) f ∙
    sym (length-append us vs)

len_term : (t : Term) → length (term_marks t) ≡ length (line.term (term_of t))
len_term (Literal n) = refl
len_term (Variable x) = refl
len_term (Product n x) = refl

len_terms : (ts : List SignedTerm) → length (terms_marks ts) ≡ length (line.more_terms (map signed_of ts))
len_terms [] = refl
len_terms (t ∷ ts) = ap (λ (n : ℕ). suc n) (len_two (term_marks t.term) (terms_marks ts)
    (line.term (term_of t.term)) (line.more_terms (map signed_of ts)) (len_term t.term) (len_terms ts))

len_bound : (b : Bound) → length (bound_marks b) ≡ length (line.bound (bound_of b))
len_bound b = len_two (term_marks b.first) (terms_marks b.more.items) (line.term (term_of b.first))
    (line.more_terms (map signed_of b.more.items)) (len_term b.first) (len_terms b.more.items)

len_one : {A : Type 0} (xs : List A) (x : A) (ys : List A) → length ((xs ++ x ∷ []) ++ ys) ≡ length xs + suc (length ys)
len_one xs x ys = ap length (append_assoc xs (x ∷ []) ys) ∙ length-append xs (x ∷ ys)

len_bounds : (o : Option (Bound × Bound)) → length (bounds_marks o) ≡ length (line.section (bounds_of o))
len_bounds None = refl
len_bounds (Some b) =
    let first : Spelling = bound_marks b.0 in
    let second : Spelling = second_marks b.1 in
    let ends = line.bound (bound_of b.1) ++ line.bound_sign sign.CloseBracket ∷ [] in
    ap (λ (n : ℕ). suc n)
    (len_one first (sign_mark sign.Colon) second
    ∙ ap (λ (n : ℕ). n + suc (length second)) (len_bound b.0)
    ∙ ap (λ (n : ℕ). length (line.bound (bound_of b.0)) + suc n)
    (len_two (bound_marks b.1) (sign_mark sign.CloseBracket ∷ []) (line.bound (bound_of b.1))
    (line.bound_sign sign.CloseBracket ∷ []) (len_bound b.1) refl)
    ∙ sym (length-append (line.bound (bound_of b.0)) ((Signed sign.Colon, line.of BadBound line.Opens) ∷ ends)))

pub len_section : (a : line.LineAct) (s : Section) → length (section_marks s) ≡ length (line.item a (section_of s))
unfolding section_marks
len_section a s = ap (λ (n : ℕ). suc n) (len_bounds s.bounds)

len_more : (a : line.LineAct) (xs : List Section) → length (each_behind sign.Comma section_marks xs) ≡ length
    (line.more_items a (map section_of xs))
len_more a [] = refl
len_more a (x ∷ xs) = ap (λ (n : ℕ). suc n) (len_two (section_marks x) (each_behind sign.Comma section_marks xs)
    (line.item a (section_of x)) (line.more_items a (map section_of xs)) (len_section a x) (len_more a xs))

pub len_sections : (first a : line.LineAct) (s : Sections) →
    length (sections_marks s) ≡ length (line.items_from first a (sections_of s))
unfolding sections_marks
len_sections first a s =
    let more : Spelling = each_behind sign.Comma section_marks s.more.items in
    let last : Spelling = sign_mark sign.CloseParen ∷ [] in
    let slots = line.more_items a (map section_of s.more.items) in
    let ends = line.mark sign.CloseParen ∷ [] in
    ap length (append_assoc (section_marks s.first) more last)
    ∙ len_two (section_marks s.first) (more ++ last) (line.item first (section_of s.first)) (slots ++ ends)
    (len_section first s.first) (len_two more last slots ends (len_more a s.more.items) refl)

-- ---- the columns of tokens

abbrev pub Placed : Spelling → List ℕ → Type 0
Placed [] cs = Unit {0}
Placed (x ∷ xs) [] = ⊥
Placed (x ∷ xs) (c ∷ cs) = IsAt x.1 c × Placed xs cs

pub placed_fit : (xs : Spelling) (is after : Items) → Fits xs is after → Placed xs (map (λ i. i.column) is)
placed_fit [] is after f = tt
placed_fit (x ∷ xs) [] after f = absurd f
placed_fit (x ∷ xs) (i ∷ is) after f = (f.1, placed_fit xs is after f.2)

pub placed_right : (xs ys : Spelling) (cs : List ℕ) → Placed (xs ++ ys) cs → Placed ys (drop (length xs) cs)
placed_right [] ys cs p = p
placed_right (x ∷ xs) ys [] p = absurd p
placed_right (x ∷ xs) ys (c ∷ cs) p = placed_right xs ys cs p.1

-- behind those
pub placed_behind : (xs ys : Spelling) (cs : List ℕ) (k n : ℕ) → length xs ≡ n → Placed (xs ++ ys) (drop k cs) →
    Placed ys (drop (k + n) cs)
placed_behind xs ys cs k n e p =
    subst (λ (ds : List ℕ). Placed ys ds) (drop-drop (length xs) k cs ∙ ap (λ (m : ℕ). drop (k + m) cs) e)
    (placed_right xs ys (drop k cs) p)

first_column : (xs : Spelling) (t : Lexeme) (n : ℕ) (k : ℕ) (cs : List ℕ) → Placed ((t, Some n) ∷ xs) (drop k cs) →
    n ≡ nth cs k
first_column xs t n zero [] p = absurd p
first_column xs t n (suc k) [] p = absurd p
first_column xs t n zero (c ∷ cs) p = sym p.0
first_column xs t n (suc k) (c ∷ cs) p = first_column xs t n k cs p

-- ---- sections

abbrev pub IsWritten : {K : Type 0} → List ℕ → Given K → Written K → Type 0
IsWritten cs g w = (w.kind ≡ g.kind) × (w.section ≡ section_of g.section) × (g.section.array.column ≡ nth cs w.token)

abbrev pub AreWritten : {K : Type 0} → List ℕ → List (Given K) → List (Written K) → Type 0
AreWritten cs [] [] = Unit {0}
AreWritten cs (g ∷ gs) (w ∷ ws) = IsWritten cs g w × AreWritten cs gs ws
AreWritten cs _ _ = ⊥

array_column : (s : Section) (ys : Spelling) (k : ℕ) (cs : List ℕ) → Placed (section_marks s ++ ys) (drop k cs) →
    s.array.column ≡ nth cs k
unfolding section_marks
array_column s ys k cs p = first_column (bounds_marks s.bounds ++ ys) (Worded s.array.text.now) s.array.column k cs p

more_written : {K : Type 0} → (kind : K) (xs : List Section) (ys : Spelling) (k : ℕ) (cs : List ℕ) →
    Placed (each_behind sign.Comma section_marks xs ++ ys) (drop k cs) →
    AreWritten cs (map (given_one kind) xs) (written_more kind k (map section_of xs))
more_written kind [] ys k cs p = tt
more_written kind (x ∷ xs) ys k cs p =
    let more : Spelling = each_behind sign.Comma section_marks xs in
    let at : Placed (section_marks x ++ (more ++ ys)) (drop (k + 1) cs) =
    subst (λ (zs : Spelling). Placed zs (drop (k + 1) cs)) (append_assoc (section_marks x) more ys)
    (placed_behind (sign_mark sign.Comma ∷ []) ((section_marks x ++ more) ++ ys) cs k 1 refl p) in (
      (refl, refl, array_column x (more ++ ys) (k + 1) cs at),
      more_written kind xs ys (k + 1 + length (line.item line.Maps (section_of x))) cs
          (placed_behind (section_marks x) (more ++ ys) cs (k + 1) (length (line.item line.Maps (section_of x)))
          (len_section line.Maps x) at),
    )

pub sections_written : {K : Type 0} → (kind : K) (s : Sections) (ys : Spelling) (k : ℕ) (cs : List ℕ) →
    Placed (sections_marks s ++ ys) (drop k cs) → AreWritten cs (given kind s) (written kind k (sections_of s))
unfolding sections_marks
sections_written kind s ys k cs p =
    let more : Spelling = each_behind sign.Comma section_marks s.more.items in
    let last : Spelling = sign_mark sign.CloseParen ∷ [] in
    let at : Placed (section_marks s.first ++ (more ++ (last ++ ys))) (drop k cs) =
    subst (λ (zs : Spelling). Placed zs (drop k cs))
    (append_assoc (section_marks s.first ++ more) last ys ∙ append_assoc (section_marks s.first) more (last ++ ys))
    p in (
      (refl, refl, array_column s.first (more ++ (last ++ ys)) k cs at),
      more_written kind s.more.items (last ++ ys) (k + length (line.item line.Maps (section_of s.first))) cs
          (placed_behind (section_marks s.first) (more ++ (last ++ ys)) cs k
          (length (line.item line.Maps (section_of s.first))) (len_section line.Maps s.first) at),
    )
