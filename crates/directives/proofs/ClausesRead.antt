-- The clauses that were read.
use Rattle.std.proofs.Common.{◌≡◌, ℕ, ◌<◌, true, List, [], ◌∷◌, ◌++◌, length, map, None, sym, ap, subst, ◌∙◌, append_assoc, append-nil}
use Rattle.std.specs.Prelude.{codes}
use Rattle.c_tokens.specs.declared.kind.Sign.TheVariants as sign
use Rattle.c_grammar.specs.Lexeme.{Signed, Worded, Ended, same}
use Rattle.c_grammar.specs.LineGrammar as grammar
use Rattle.c_grammar.specs.LineRules.{IsClause, AreClauses}
use Rattle.directives.specs.declared.tree.DeviceClause.{DeviceClause}
use Rattle.directives.specs.declared.tree.DeviceClause.TheVariants.{Fixed, Looped}
use Rattle.directives.specs.declared.line.Line.{Line}
use Rattle.directives.specs.declared.tree.MapClause.{MapClause}
use Rattle.directives.specs.declared.tree.DependClause.{DependClause}
use Rattle.directives.specs.declared.tree.MotionClause.{MotionClause}
use Rattle.directives.specs.declared.tree.Clause.{Clause}
use Rattle.directives.specs.declared.tree.Clause.TheVariants.{Map, Depend, Motion, NoWait, Device, Amount, Schedule}
use Rattle.directives.specs.Kinds.{seen_amount, seen_schedule, seen_map, seen_depend, seen_motion}
use Rattle.directives.specs.Cursor.{Items, first_item, behind, items}
use Rattle.directives.specs.Reading.{IsSpelled}
use Rattle.directives.specs.Trees.{Spelling, word_mark, sign_mark, number_mark, device_mark, modifiers_marks, present_marks, type_marks, sections_marks, chunk_marks, clause_of, clause_marks, clauses_marks}
use Rattle.directives.proofs.Clausing.{end_is}
use Rattle.directives.proofs.Spellings.{spelled_one, spelled_first, spelled_then, spelled_as, spelled_less}

-- a word and the bracket behind it
pub read_word : (l l1 l2 : Line) (x : List ℕ) → (first_item l).terminal ≡ Worded x → behind l ≡ items l1 →
    (first_item l1).terminal ≡ Signed sign.OpenParen → behind l1 ≡ items l2 →
    IsSpelled (word_mark x ∷ sign_mark sign.OpenParen ∷ []) (items l) (items l2)
read_word l l1 l2 x e b f d = spelled_first l l1 (Worded x) None (sign_mark sign.OpenParen ∷ []) (items l2) e tt b
    (spelled_one l1 (items l2) (Signed sign.OpenParen) None f tt d)

pub read_map : (l l1 l2 l3 l4 l5 : Line) (m : MapClause) → (first_item l).terminal ≡ Worded (codes "map") →
    behind l ≡ items l1 → (first_item l1).terminal ≡ Signed sign.OpenParen → behind l1 ≡ items l2 →
    IsSpelled (modifiers_marks m.modifiers.items) (items l2) (items l3) →
    IsSpelled (type_marks (grammar.map_word (seen_map m.map_type))) (items l3) (items l4) →
    IsSpelled (sections_marks m.sections) (items l4) (items l5) → IsSpelled (clause_marks (Map m)) (items l) (items l5)
unfolding clause_marks
read_map l l1 l2 l3 l4 l5 m e b f d a t s =
    let x : List ℕ = grammar.map_word (seen_map m.map_type) in
    let more : IsSpelled (type_marks x ++ sections_marks m.sections) (items l3) (items l5) =
    spelled_then (type_marks x) (sections_marks m.sections) (items l3) (items l4) (items l5) t s in
    spelled_then (word_mark (codes "map") ∷ sign_mark sign.OpenParen ∷ [])
    (modifiers_marks m.modifiers.items ++ (type_marks x ++ sections_marks m.sections)) (items l) (items l2) (items l5)
    (read_word l l1 l2 (codes "map") e b f d)
    (spelled_then (modifiers_marks m.modifiers.items) (type_marks x ++ sections_marks m.sections) (items l2) (items l3)
    (items l5) a more)

pub read_depend : (l l1 l2 l3 l4 : Line) (m : DependClause) → (first_item l).terminal ≡ Worded (codes "depend") →
    behind l ≡ items l1 → (first_item l1).terminal ≡ Signed sign.OpenParen → behind l1 ≡ items l2 →
    IsSpelled (type_marks (grammar.depend_word (seen_depend m.depend_type))) (items l2) (items l3) →
    IsSpelled (sections_marks m.sections) (items l3) (items l4) → IsSpelled (clause_marks (Depend m)) (items l)
    (items l4)
unfolding clause_marks
read_depend l l1 l2 l3 l4 m e b f d t s =
    let x : List ℕ = grammar.depend_word (seen_depend m.depend_type) in
    spelled_then (word_mark (codes "depend") ∷ sign_mark sign.OpenParen ∷ [])
    (type_marks x ++ sections_marks m.sections)
    (items l) (items l2) (items l4) (read_word l l1 l2 (codes "depend") e b f d)
    (spelled_then (type_marks x) (sections_marks m.sections) (items l2) (items l3) (items l4) t s)

pub read_motion : (l l1 l2 l3 l4 : Line) (m : MotionClause) →
    (first_item l).terminal ≡ Worded (grammar.motion_word (seen_motion m.motion_type)) → behind l ≡ items l1 →
    (first_item l1).terminal ≡ Signed sign.OpenParen → behind l1 ≡ items l2 →
    IsSpelled (present_marks m.present) (items l2) (items l3) →
    IsSpelled (sections_marks m.sections) (items l3) (items l4) → IsSpelled (clause_marks (Motion m)) (items l)
    (items l4)
unfolding clause_marks
read_motion l l1 l2 l3 l4 m e b f d p s =
    let x : List ℕ = grammar.motion_word (seen_motion m.motion_type) in
    spelled_then (word_mark x ∷ sign_mark sign.OpenParen ∷ []) (present_marks m.present ++ sections_marks m.sections)
    (items l) (items l2) (items l4) (read_word l l1 l2 x e b f d)
    (spelled_then (present_marks m.present) (sections_marks m.sections) (items l2) (items l3) (items l4) p s)

pub read_nowait : (l l1 : Line) → (first_item l).terminal ≡ Worded (codes "nowait") → behind l ≡ items l1 →
    IsSpelled (clause_marks NoWait) (items l) (items l1)
unfolding clause_marks
read_nowait l l1 e b = spelled_one l (items l1) (Worded (codes "nowait")) None e tt b

pub read_device : (l l1 l2 l3 l4 : Line) (d : DeviceClause) → (first_item l).terminal ≡ Worded (codes "device") →
    behind l ≡ items l1 → (first_item l1).terminal ≡ Signed sign.OpenParen → behind l1 ≡ items l2 →
    IsSpelled (device_mark d ∷ []) (items l2) (items l3) → (first_item l3).terminal ≡ Signed sign.CloseParen →
    behind l3 ≡ items l4 → IsSpelled (clause_marks (Device d)) (items l) (items l4)
unfolding clause_marks
read_device l l1 l2 l3 l4 d e b f g n h c =
    spelled_then (word_mark (codes "device") ∷ sign_mark sign.OpenParen ∷ [])
    (device_mark d ∷ sign_mark sign.CloseParen ∷ []) (items l) (items l2) (items l4)
    (read_word l l1 l2 (codes "device") e b f g)
    (spelled_then (device_mark d ∷ []) (sign_mark sign.CloseParen ∷ []) (items l2) (items l3) (items l4) n
    (spelled_one l3 (items l4) (Signed sign.CloseParen) None h tt c))

-- ---- a clause has a token

pub clause_less : (c : Clause) (a b : Items) → IsSpelled (clause_marks c) a b → length b < length a
unfolding clause_marks
clause_less (Map m) a b r = spelled_less (word_mark (codes "map"))
    (sign_mark sign.OpenParen ∷ (modifiers_marks m.modifiers.items ++ (type_marks (grammar.map_word (seen_map m.map_type)) ++ sections_marks m.sections))) a b r.fits
clause_less (Depend d) a b r = spelled_less (word_mark (codes "depend")) (sign_mark sign.OpenParen ∷
    (type_marks (grammar.depend_word (seen_depend d.depend_type)) ++ sections_marks d.sections)) a b r.fits
clause_less (Motion m) a b r = spelled_less (word_mark (grammar.motion_word (seen_motion m.motion_type)))
    (sign_mark sign.OpenParen ∷ (present_marks m.present ++ sections_marks m.sections)) a b r.fits
clause_less NoWait a b r = spelled_less (word_mark (codes "nowait")) [] a b r.fits
clause_less (Device d) a b r = spelled_less (word_mark (codes "device"))
    (sign_mark sign.OpenParen ∷ device_mark d ∷ sign_mark sign.CloseParen ∷ []) a b r.fits
clause_less (Amount x n) a b r = spelled_less (word_mark (grammar.amount_word (seen_amount x)))
    (sign_mark sign.OpenParen ∷ number_mark n ∷ sign_mark sign.CloseParen ∷ []) a b r.fits
clause_less (Schedule t o) a b r = spelled_less (word_mark (codes "schedule"))
    (sign_mark sign.OpenParen ∷ word_mark (grammar.schedule_word (seen_schedule t)) ∷ chunk_marks o) a b r.fits

-- ---- clauses

clauses_more : (cs : List Clause) (c : Clause) → clauses_marks (cs ++ c ∷ []) ≡ clauses_marks cs ++ clause_marks c
clauses_more [] c = append-nil (clause_marks c)
clauses_more (d ∷ ds) c = ap (λ (zs : Spelling). clause_marks d ++ zs) (clauses_more ds c)
    ∙ sym (append_assoc (clause_marks d) (clauses_marks ds) (clause_marks c))

pub read_clauses_more : (cs ds : List Clause) (c : Clause) (a b d : Items) → ds ≡ cs ++ c ∷ [] →
    IsSpelled (clauses_marks cs) a b → IsSpelled (clause_marks c) b d → IsSpelled (clauses_marks ds) a d
read_clauses_more cs ds c a b d e r s = spelled_as (clauses_marks cs ++ clause_marks c) (clauses_marks ds) a d
    (sym (ap clauses_marks e ∙ clauses_more cs c)) (spelled_then (clauses_marks cs) (clause_marks c) a b d r s)

takes_more : (k : grammar.DirectiveKind) (cs : List Clause) (c : Clause) → AreClauses k (map clause_of cs) →
    IsClause k (clause_of c) → AreClauses k (map clause_of (cs ++ c ∷ []))
takes_more k [] c h g = (g, tt)
takes_more k (d ∷ ds) c h g = (h.0, takes_more k ds c h.1 g)

pub takes_clauses_more : (k : grammar.DirectiveKind) (cs ds : List Clause) (c : Clause) → ds ≡ cs ++ c ∷ [] →
    AreClauses k (map clause_of cs) → IsClause k (clause_of c) → AreClauses k (map clause_of ds)
takes_clauses_more k cs ds c e h g =
    subst (λ (es : List Clause). AreClauses k (map clause_of es)) (sym e) (takes_more k cs c h g)

-- the end of the line behind them
pub read_ends : (cs : List Clause) (a : Items) (l : Line) → IsSpelled (clauses_marks cs) a (items l) →
    same Ended (first_item l).terminal ≡ true → behind l ≡ [] →
    IsSpelled (clauses_marks cs ++ (Ended, None) ∷ []) a []
read_ends cs a l r e b = spelled_then (clauses_marks cs) ((Ended, None) ∷ []) a (items l) [] r
    (spelled_one l [] Ended None (end_is l e) tt b)
