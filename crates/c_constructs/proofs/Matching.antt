-- The sections of a line, placed by the numbers of their tokens.
use Rattle.std.proofs.Common.{◌≡◌, ℕ, suc, ◌+◌, Bool, true, false, List, [], ◌∷◌, ◌++◌, length, map, drop, Some, None, refl, sym, ap, ◌∙◌, append_assoc, subst}
use Rattle.std.specs.Prelude.{codes}
use Rattle.c_tokens.specs.declared.kind.Sign.TheVariants as sign
use Rattle.base.specs.declared.tree.MapText.{MapText}
use Rattle.base.specs.declared.tree.UpdateText.{UpdateText}
use Rattle.base.specs.declared.tree.DependText.{DependText}
use Rattle.base.specs.declared.tree.SectionText.{SectionText}
use Rattle.base.specs.declared.tree.Place.{Place}
use Rattle.base.specs.declared.fault.ReadCode.TheVariants.{BadMapType}
use Rattle.c_grammar.specs.Lexeme.{Lexeme, Signed, Worded}
use Rattle.c_grammar.specs.LineGrammar as line
use Rattle.c_grammar.specs.Texts.{Item}
use Rattle.c_grammar.specs.Terminal.{Terminal}
use Rattle.c_grammar.specs.Source.{nth}
use Rattle.c_expressions.specs.Means.{Items, MeansArray, Names, meaning_of}
use Rattle.directives.specs.declared.tree.Clause.{Clause}
use Rattle.directives.specs.declared.tree.Clause.TheVariants.{Map, Depend, Motion, NoWait, Device, Amount, Schedule}
use Rattle.directives.specs.declared.tree.Modifier.{Modifier}
use Rattle.directives.specs.declared.tree.Section.{Section}
use Rattle.directives.specs.declared.tree.Sections.{Sections}
use Rattle.directives.specs.declared.tree.MapClause.{MapClause}
use Rattle.directives.specs.declared.tree.DependClause.{DependClause}
use Rattle.directives.specs.declared.tree.MotionClause.{MotionClause}
use Rattle.directives.specs.Kinds.{seen_modifier, seen_map, seen_depend, seen_motion}
use Rattle.directives.specs.Trees.{Spelling, word_mark, sign_mark, section_of, sections_of, clause_of, modifiers_marks, present_marks, type_marks, sections_marks, clause_marks, clauses_marks}
use Rattle.c_constructs.specs.Sections.{Given, given, IsSectionAt, IsMapAt, IsUpdateAt, IsDependAt, Pairs, all_given, map_given, depend_given, motion_given}
use Rattle.c_constructs.specs.Written.{Mapping, Written, written, mapping_of, mapped_at, moved_at, maps_from, depends_from, motions_from, IsSection, AreBounds, AreMaps, AreUpdates, AreDepends}
use Rattle.c_constructs.proofs.Placing.{Placed, placed_behind, AreWritten, sections_written, len_two, len_sections}

-- ---- clauses

len_modifiers : (ms : List Modifier) →
    length (modifiers_marks ms) ≡ length (line.modifiers (map seen_modifier ms))
len_modifiers [] = refl
len_modifiers (m ∷ ms) = ap (λ (n : ℕ). suc (suc n)) (len_modifiers ms)

len_motion : (p : Bool) (s : Sections) →
    length (present_marks p ++ sections_marks s) ≡ length (line.motion p (sections_of s))
len_motion false s = len_sections line.Heads line.Maps s
len_motion true s = ap (λ (n : ℕ). suc (suc n)) (len_sections line.Maps line.Maps s)

len_clause : (c : Clause) → length (clause_marks c) ≡ length (line.clause (clause_of c))
unfolding clause_marks
len_clause (Map m) =
    ap (λ (n : ℕ). suc (suc n))
    (len_two (modifiers_marks m.modifiers.items)
    (type_marks (line.map_word (seen_map m.map_type)) ++ sections_marks m.sections)
    (line.modifiers (map seen_modifier m.modifiers.items))
    ((Worded (line.map_word (seen_map m.map_type)), line.of BadMapType line.Plain) ∷ line.mark sign.Colon ∷
    line.items line.Maps (sections_of m.sections)) (len_modifiers m.modifiers.items)
    (ap (λ (n : ℕ). suc (suc n)) (len_sections line.Maps line.Maps m.sections)))
len_clause (Depend d) =
    ap (λ (n : ℕ). suc (suc (suc (suc n)))) (len_sections line.Depends line.Depends d.sections)
len_clause (Motion m) = ap (λ (n : ℕ). suc (suc n)) (len_motion m.present m.sections)
len_clause NoWait = refl
len_clause (Device d) = refl
len_clause (Amount a n) = refl
len_clause (Schedule t None) = refl
len_clause (Schedule t (Some n)) = refl

-- the type and the sections of a map clause
typed_marks : MapClause → Spelling
typed_marks m = type_marks (line.map_word (seen_map m.map_type)) ++ sections_marks m.sections

-- the sections behind two tokens and modifiers; these two stand at a number
mapped_written : (m : MapClause) (kind : Mapping) (a b : Lexeme) (ms : List Modifier) (ys : Spelling) (k : ℕ)
    (cs : List ℕ) → Placed (((a, None) ∷ (b, None) ∷ (modifiers_marks ms ++ typed_marks m)) ++ ys) (drop k cs) →
    AreWritten cs (given kind m.sections) (written kind (mapped_at (map seen_modifier ms) k) (sections_of m.sections))
unfolding typed_marks
mapped_written m kind a b [] ys k cs p = sections_written kind m.sections ys (k + 4) cs
    (placed_behind ((a, None) ∷ (b, None) ∷ type_marks (line.map_word (seen_map m.map_type)))
    (sections_marks m.sections ++ ys) cs k 4 refl p)
mapped_written m kind a b (n ∷ ns) ys k cs p =
    mapped_written m kind (Worded (line.modifier_word (seen_modifier n))) (Signed sign.Comma) ns ys (k + 2) cs
    (placed_behind ((a, None) ∷ (b, None) ∷ []) ((modifiers_marks (n ∷ ns) ++ typed_marks m) ++ ys) cs k 2 refl p)

-- the sections of a clause, which begins at a number
map_written : (m : MapClause) (ys : Spelling) (k : ℕ) (cs : List ℕ) → Placed (clause_marks (Map m) ++ ys) (drop k cs) →
    AreWritten cs (map_given (Map m))
    (written (mapping_of (map seen_modifier m.modifiers.items) (seen_map m.map_type))
    (mapped_at (map seen_modifier m.modifiers.items) k) (sections_of m.sections))
unfolding clause_marks typed_marks
map_written m ys k cs p =
    mapped_written m (mapping_of (map seen_modifier m.modifiers.items) (seen_map m.map_type)) (Worded (codes "map"))
    (Signed sign.OpenParen) m.modifiers.items ys k cs p

depend_written : (d : DependClause) (ys : Spelling) (k : ℕ) (cs : List ℕ) →
    Placed (clause_marks (Depend d) ++ ys) (drop k cs) → AreWritten cs (given (seen_depend d.depend_type) d.sections)
    (written (seen_depend d.depend_type) (k + 4) (sections_of d.sections))
unfolding clause_marks
depend_written d ys k cs p =
    sections_written (seen_depend d.depend_type) d.sections ys (k + 4) cs
    (placed_behind (word_mark (codes "depend") ∷ sign_mark sign.OpenParen ∷
    type_marks (line.depend_word (seen_depend d.depend_type))) (sections_marks d.sections ++ ys) cs k 4 refl p)

motion_written : (m : MotionClause) (ys : Spelling) (k : ℕ) (cs : List ℕ) →
    Placed (clause_marks (Motion m) ++ ys) (drop k cs) →
    AreWritten {K = Bool × line.MotionType} cs (given (m.present, seen_motion m.motion_type) m.sections)
    (written (m.present, seen_motion m.motion_type) (moved_at m.present k) (sections_of m.sections))
unfolding clause_marks
motion_written m ys k cs p = go m.present p
  where
    kind : Bool × line.MotionType
    kind = (m.present, seen_motion m.motion_type)

    front : Spelling
    front = word_mark (line.motion_word (seen_motion m.motion_type)) ∷ sign_mark sign.OpenParen ∷ []

    go : (b : Bool) → Placed ((front ++ (present_marks b ++ sections_marks m.sections)) ++ ys) (drop k cs) →
        AreWritten cs (given kind m.sections) (written kind (moved_at b k) (sections_of m.sections))
    go false q = sections_written kind m.sections ys (k + 2) cs
        (placed_behind front (sections_marks m.sections ++ ys) cs k 2 refl q)
    go true q = sections_written kind m.sections ys (k + 4) cs
        (placed_behind (front ++ present_marks true) (sections_marks m.sections ++ ys) cs k 4 refl q)

-- ---- all clauses

are_both : {K : Type 0} → (cs : List ℕ) (gs hs : List (Given K)) (ws vs : List (Written K)) → AreWritten cs gs ws →
    AreWritten cs hs vs → AreWritten cs (gs ++ hs) (ws ++ vs)
are_both cs [] hs [] vs a b = b
are_both cs [] hs (w ∷ ws) vs a b = absurd a
are_both cs (g ∷ gs) hs [] vs a b = absurd a
are_both cs (g ∷ gs) hs (w ∷ ws) vs a b = (a.0, are_both cs gs hs ws vs a.1 b)

next_clause : (c : Clause) (xs : List Clause) (ys : Spelling) (k : ℕ) (cs : List ℕ) →
    Placed (clauses_marks (c ∷ xs) ++ ys) (drop k cs) →
    Placed (clauses_marks xs ++ ys) (drop (k + length (line.clause (clause_of c))) cs)
next_clause c xs ys k cs p =
    placed_behind (clause_marks c) (clauses_marks xs ++ ys) cs k (length (line.clause (clause_of c))) (len_clause c)
    (subst (λ (zs : Spelling). Placed zs (drop k cs)) (append_assoc (clause_marks c) (clauses_marks xs) ys) p)

first_clause : (c : Clause) (xs : List Clause) (ys : Spelling) (k : ℕ) (cs : List ℕ) →
    Placed (clauses_marks (c ∷ xs) ++ ys) (drop k cs) → Placed (clause_marks c ++ (clauses_marks xs ++ ys)) (drop k cs)
first_clause c xs ys k cs p =
    subst (λ (zs : Spelling). Placed zs (drop k cs)) (append_assoc (clause_marks c) (clauses_marks xs) ys) p

pub maps_written : (xs : List Clause) (ys : Spelling) (k : ℕ) (cs : List ℕ) →
    Placed (clauses_marks xs ++ ys) (drop k cs) →
    AreWritten cs (all_given map_given xs) (maps_from k (map clause_of xs))
maps_written [] ys k cs p = tt
maps_written (Map m ∷ xs) ys k cs p =
    are_both cs (map_given (Map m)) (all_given map_given xs)
    (written (mapping_of (map seen_modifier m.modifiers.items) (seen_map m.map_type))
    (mapped_at (map seen_modifier m.modifiers.items) k) (sections_of m.sections))
    (maps_from (k + length (line.clause (clause_of (Map m)))) (map clause_of xs))
    (map_written m (clauses_marks xs ++ ys) k cs (first_clause (Map m) xs ys k cs p))
    (maps_written xs ys (k + length (line.clause (clause_of (Map m)))) cs (next_clause (Map m) xs ys k cs p))
maps_written (Depend d ∷ xs) ys k cs p =
    maps_written xs ys (k + length (line.clause (clause_of (Depend d)))) cs (next_clause (Depend d) xs ys k cs p)
maps_written (Motion m ∷ xs) ys k cs p =
    maps_written xs ys (k + length (line.clause (clause_of (Motion m)))) cs (next_clause (Motion m) xs ys k cs p)
maps_written (NoWait ∷ xs) ys k cs p =
    maps_written xs ys (k + length (line.clause (clause_of NoWait))) cs (next_clause NoWait xs ys k cs p)
maps_written (Device d ∷ xs) ys k cs p =
    maps_written xs ys (k + length (line.clause (clause_of (Device d)))) cs (next_clause (Device d) xs ys k cs p)
maps_written (Amount a n ∷ xs) ys k cs p =
    maps_written xs ys (k + length (line.clause (clause_of (Amount a n)))) cs (next_clause (Amount a n) xs ys k cs p)
maps_written (Schedule t o ∷ xs) ys k cs p =
    maps_written xs ys (k + length (line.clause (clause_of (Schedule t o)))) cs (next_clause (Schedule t o) xs ys k cs p)

pub depends_written : (xs : List Clause) (ys : Spelling) (k : ℕ) (cs : List ℕ) →
    Placed (clauses_marks xs ++ ys) (drop k cs) →
    AreWritten cs (all_given depend_given xs) (depends_from k (map clause_of xs))
depends_written [] ys k cs p = tt
depends_written (Depend d ∷ xs) ys k cs p =
    are_both cs (depend_given (Depend d)) (all_given depend_given xs)
    (written (seen_depend d.depend_type) (k + 4) (sections_of d.sections))
    (depends_from (k + length (line.clause (clause_of (Depend d)))) (map clause_of xs))
    (depend_written d (clauses_marks xs ++ ys) k cs (first_clause (Depend d) xs ys k cs p))
    (depends_written xs ys (k + length (line.clause (clause_of (Depend d)))) cs (next_clause (Depend d) xs ys k cs p))
depends_written (Map m ∷ xs) ys k cs p =
    depends_written xs ys (k + length (line.clause (clause_of (Map m)))) cs (next_clause (Map m) xs ys k cs p)
depends_written (Motion m ∷ xs) ys k cs p =
    depends_written xs ys (k + length (line.clause (clause_of (Motion m)))) cs (next_clause (Motion m) xs ys k cs p)
depends_written (NoWait ∷ xs) ys k cs p =
    depends_written xs ys (k + length (line.clause (clause_of NoWait))) cs (next_clause NoWait xs ys k cs p)
depends_written (Device d ∷ xs) ys k cs p =
    depends_written xs ys (k + length (line.clause (clause_of (Device d)))) cs (next_clause (Device d) xs ys k cs p)
depends_written (Amount a n ∷ xs) ys k cs p =
    depends_written xs ys (k + length (line.clause (clause_of (Amount a n)))) cs (next_clause (Amount a n) xs ys k cs p)
depends_written (Schedule t o ∷ xs) ys k cs p =
    depends_written xs ys (k + length (line.clause (clause_of (Schedule t o)))) cs (next_clause (Schedule t o) xs ys k cs p)

pub motions_written : (xs : List Clause) (ys : Spelling) (k : ℕ) (cs : List ℕ) →
    Placed (clauses_marks xs ++ ys) (drop k cs) →
    AreWritten cs (all_given motion_given xs) (motions_from k (map clause_of xs))
motions_written [] ys k cs p = tt
motions_written (Motion m ∷ xs) ys k cs p =
    are_both cs (motion_given (Motion m)) (all_given motion_given xs)
    (written (m.present, seen_motion m.motion_type) (moved_at m.present k) (sections_of m.sections))
    (motions_from (k + length (line.clause (clause_of (Motion m)))) (map clause_of xs))
    (motion_written m (clauses_marks xs ++ ys) k cs (first_clause (Motion m) xs ys k cs p))
    (motions_written xs ys (k + length (line.clause (clause_of (Motion m)))) cs (next_clause (Motion m) xs ys k cs p))
motions_written (Map m ∷ xs) ys k cs p =
    motions_written xs ys (k + length (line.clause (clause_of (Map m)))) cs (next_clause (Map m) xs ys k cs p)
motions_written (Depend d ∷ xs) ys k cs p =
    motions_written xs ys (k + length (line.clause (clause_of (Depend d)))) cs (next_clause (Depend d) xs ys k cs p)
motions_written (NoWait ∷ xs) ys k cs p =
    motions_written xs ys (k + length (line.clause (clause_of NoWait))) cs (next_clause NoWait xs ys k cs p)
motions_written (Device d ∷ xs) ys k cs p =
    motions_written xs ys (k + length (line.clause (clause_of (Device d)))) cs (next_clause (Device d) xs ys k cs p)
motions_written (Amount a n ∷ xs) ys k cs p =
    motions_written xs ys (k + length (line.clause (clause_of (Amount a n)))) cs (next_clause (Amount a n) xs ys k cs p)
motions_written (Schedule t o ∷ xs) ys k cs p =
    motions_written xs ys (k + length (line.clause (clause_of (Schedule t o)))) cs (next_clause (Schedule t o) xs ys k cs p)

-- ---- what they mean

section_placed : (names : Names) (i : Item Terminal) (is : Items) (k : ℕ) (s : Section) (w : line.Section)
    (t : SectionText) → w ≡ section_of s → s.array.column ≡ nth i.columns k → IsSectionAt names i.line s t →
    IsSection names (i ∷ is) k w t
section_placed names i is k s w t e c h = record {
  array = subst (λ (v : line.Section). MeansArray (meaning_of names v.0) t.array) (sym e) h.array;
  place = h.place ∙ ap (λ (n : ℕ). (let p : Place = record { line = i.line; column = n } in p)) c;
  bounds = subst (λ (v : line.Section). AreBounds names v.1 t.bounds) (sym e) h.bounds;
}

pub maps_placed : {K : Type 0} → (seen : K → line.MapType) (names : Names) (i : Item Terminal) (is : Items)
    (gs : List (Given Mapping)) (ws : List (Written Mapping)) (ms : List (MapText K)) →
    AreWritten i.columns gs ws → Pairs (IsMapAt seen names i.line) gs ms → AreMaps seen names (i ∷ is) ws ms
maps_placed seen names i is [] [] [] a p = tt
maps_placed seen names i is [] [] (m ∷ ms) a p = absurd p
maps_placed seen names i is [] (w ∷ ws) ms a p = absurd a
maps_placed seen names i is (g ∷ gs) [] ms a p = absurd a
maps_placed seen names i is (g ∷ gs) (w ∷ ws) [] a p = absurd p
maps_placed seen names i is (g ∷ gs) (w ∷ ws) (m ∷ ms) a p = (
  a.0.0 ∙ p.0.0,
  section_placed names i is w.token g.section w.section m.section a.0.1 a.0.2 p.0.1,
  maps_placed seen names i is gs ws ms a.1 p.1,
)

pub updates_placed : (names : Names) (i : Item Terminal) (is : Items) (gs : List (Given (Bool × line.MotionType)))
    (ws : List (Written (Bool × line.MotionType))) (us : List UpdateText) → AreWritten i.columns gs ws →
    Pairs (IsUpdateAt names i.line) gs us → AreUpdates names (i ∷ is) ws us
updates_placed names i is [] [] [] a p = tt
updates_placed names i is [] [] (m ∷ ms) a p = absurd p
updates_placed names i is [] (w ∷ ws) ms a p = absurd a
updates_placed names i is (g ∷ gs) [] ms a p = absurd a
updates_placed names i is (g ∷ gs) (w ∷ ws) [] a p = absurd p
updates_placed names i is (g ∷ gs) (w ∷ ws) (m ∷ ms) a p = (
  a.0.0 ∙ p.0.0,
  section_placed names i is w.token g.section w.section m.section a.0.1 a.0.2 p.0.1,
  updates_placed names i is gs ws ms a.1 p.1,
)

pub depends_placed : (names : Names) (i : Item Terminal) (is : Items) (gs : List (Given line.DependType))
    (ws : List (Written line.DependType)) (us : List DependText) → AreWritten i.columns gs ws →
    Pairs (IsDependAt names i.line) gs us → AreDepends names (i ∷ is) ws us
depends_placed names i is [] [] [] a p = tt
depends_placed names i is [] [] (m ∷ ms) a p = absurd p
depends_placed names i is [] (w ∷ ws) ms a p = absurd a
depends_placed names i is (g ∷ gs) [] ms a p = absurd a
depends_placed names i is (g ∷ gs) (w ∷ ws) [] a p = absurd p
depends_placed names i is (g ∷ gs) (w ∷ ws) (m ∷ ms) a p = (
  a.0.0 ∙ p.0.0,
  section_placed names i is w.token g.section w.section m.section a.0.1 a.0.2 p.0.1,
  depends_placed names i is gs ws ms a.1 p.1,
)
