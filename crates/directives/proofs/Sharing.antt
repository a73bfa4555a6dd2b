-- The machine at the clauses with numbers that say how turns are shared out, and what was read of them.
use Rattle.std.proofs.Common.{◌≡◌, ℕ, true, false, cond, List, [], ◌∷◌, Option, Some, None, refl, ap, ◌∙◌}
use Rattle.std.specs.Prelude.{codes}
use Rattle.std.proofs.lemmas.Bool.{and_parts}
use Rattle.c_tokens.specs.declared.kind.Sign.TheVariants as sign
use Rattle.base.specs.declared.fault.ReadCode.TheVariants.{Unexpected, BadNumber, BadOperand, UnknownClause}
use Rattle.c_grammar.specs.Lexeme.{Lexeme, Reserved, Signed, Worded, Numbered, Strange, Ended, same}
use Rattle.c_grammar.specs.LineGrammar.{Amount, OnSchedule, OnAmount, Once, Amounts, Chunks, plain, of, DirectiveKind, ScheduleType, Static, Dynamic, Guided, Auto, Runtime, amount_word, schedule_word, takes_amount, takes_schedule, takes_chunk}
use Rattle.c_grammar.specs.LineMachine.{LineStack, Clauses, AmountNumber, ScheduleHead, AfterSchedule, ChunkNumber, w, is_word, line_advance, line_place}
use Rattle.c_grammar.proofs.LineGoes.{amount_clause_step, schedule_clause_step}
use Rattle.directives.specs.declared.known.Act.TheVariants as act
use Rattle.directives.specs.declared.line.Line.{Line}
use Rattle.directives.specs.declared.tree.Amount.{Amount as GivenAmount}
use Rattle.directives.specs.declared.tree.ScheduleType.{ScheduleType as GivenSchedule}
use Rattle.directives.specs.declared.tree.Clause.TheVariants as clause
use Rattle.directives.specs.Clauses.{is_amount, is_schedule}
use Rattle.directives.specs.Cursor.{first_item, behind, items}
use Rattle.directives.specs.Kinds.{seen_amount, seen_schedule, IsNoScheduleWord}
use Rattle.directives.specs.Known.{known_of, broken_by}
use Rattle.directives.specs.Reading.{rest, took, fault_at, misfit_at, IsSpelled}
use Rattle.directives.specs.Trees.{word_mark, sign_mark, number_mark, chunk_marks, clause_marks}
use Rattle.directives.proofs.Bounding.{bad_breaks}
use Rattle.directives.proofs.ClausesRead.{read_word}
use Rattle.directives.proofs.Moves.{goes, stops, took_broken, word_is, sign_is}
use Rattle.directives.proofs.Spellings.{spelled_one, spelled_first, spelled_then}

-- ---- the words of clauses

pub amount_is : (l : Line) (k : DirectiveKind) (a : Amount) → is_amount k a (first_item l).terminal ≡ true →
    (first_item l).terminal ≡ Worded (amount_word a)
amount_is l k a e = word_is l (amount_word a)
    (and_parts (takes_amount k a) (is_word (amount_word a) (first_item l).terminal) e).1

pub amount_taken : (l : Line) (k : DirectiveKind) (a : Amount) → is_amount k a (first_item l).terminal ≡ true →
    takes_amount k a ≡ true
amount_taken l k a e = (and_parts (takes_amount k a) (is_word (amount_word a) (first_item l).terminal) e).0

pub at_amount : (l : Line) (k : DirectiveKind) (a : Amount) (s : LineStack) → takes_amount k a ≡ true →
    (first_item l).terminal ≡ Worded (amount_word a) →
    rest l (Clauses k ∷ s) ≡ took l (of UnknownClause (Once (OnAmount a)))
    (w sign.OpenParen ∷ AmountNumber a ∷ w sign.CloseParen ∷ Clauses k ∷ s)
at_amount l k a s h e = goes l (Clauses k ∷ s) (w sign.OpenParen ∷ AmountNumber a ∷ w sign.CloseParen ∷ Clauses k ∷ s)
    (of UnknownClause (Once (OnAmount a))) (ap (line_advance (Clauses k ∷ s)) e ∙ amount_clause_step k a s h)

pub schedule_is : (l : Line) (k : DirectiveKind) → is_schedule k (first_item l).terminal ≡ true →
    (first_item l).terminal ≡ Worded (codes "schedule")
schedule_is l k e = word_is l (codes "schedule")
    (and_parts (takes_schedule k) (is_word (codes "schedule") (first_item l).terminal) e).1

pub schedule_taken : (l : Line) (k : DirectiveKind) → is_schedule k (first_item l).terminal ≡ true →
    takes_schedule k ≡ true
schedule_taken l k e = (and_parts (takes_schedule k) (is_word (codes "schedule") (first_item l).terminal) e).0

pub at_schedule : (l : Line) (k : DirectiveKind) (s : LineStack) → is_schedule k (first_item l).terminal ≡ true →
    rest l (Clauses k ∷ s) ≡ took l (of UnknownClause (Once OnSchedule)) (w sign.OpenParen ∷ ScheduleHead ∷ Clauses k ∷ s)
at_schedule l k s e = goes l (Clauses k ∷ s) (w sign.OpenParen ∷ ScheduleHead ∷ Clauses k ∷ s)
    (of UnknownClause (Once OnSchedule)) (ap (line_advance (Clauses k ∷ s)) (schedule_is l k e) ∙ schedule_clause_step k s
    (schedule_taken l k e))

-- ---- numbers

amount_goes : (a : Amount) (s : LineStack) (n : Option ℕ) →
    line_advance (AmountNumber a ∷ s) (Numbered n) ≡ Some (of BadOperand (Amounts a), s)
unfolding line_advance
amount_goes a s n = refl

pub at_amount_number : (l : Line) (a : Amount) (s : LineStack) (n : Option ℕ) → (first_item l).terminal ≡ Numbered n →
    rest l (AmountNumber a ∷ s) ≡ took l (of BadOperand (Amounts a)) s
at_amount_number l a s n e = goes l (AmountNumber a ∷ s) s (of BadOperand (Amounts a))
    (ap (line_advance (AmountNumber a ∷ s)) e ∙ amount_goes a s n)

pub bad_amount_number : (l : Line) (a : GivenAmount) (s : LineStack) → (first_item l).terminal ≡ Numbered None →
    rest l (AmountNumber (seen_amount a) ∷ s) ≡ Some (fault_at (first_item l) BadNumber)
bad_amount_number l a s e =
    at_amount_number l (seen_amount a) s None e ∙ took_broken l (act.Amounts a) BadNumber (Some BadOperand) s
    (ap (λ (t : Lexeme). broken_by (known_of l.known) t (Amounts (seen_amount a))) e
    ∙ bad_breaks (known_of l.known) (Amounts (seen_amount a)))

-- a token that is no number
abbrev NoNumber : Lexeme → Type 0
NoNumber (Numbered n) = ⊥
NoNumber (Worded x) = Unit {0}
NoNumber (Reserved x) = Unit {0}
NoNumber (Signed x) = Unit {0}
NoNumber Strange = Unit {0}
NoNumber Ended = Unit {0}

amount_none : (a : Amount) (s : LineStack) (t : Lexeme) → NoNumber t → line_advance (AmountNumber a ∷ s) t ≡ None
unfolding line_advance
amount_none a s (Numbered n) h = absurd h
amount_none a s (Worded x) h = refl
amount_none a s (Reserved x) h = refl
amount_none a s (Signed x) h = refl
amount_none a s Strange h = refl
amount_none a s Ended h = refl

pub stop_amount_number : (l : Line) (a : Amount) (s : LineStack) → NoNumber (first_item l).terminal →
    rest l (AmountNumber a ∷ s) ≡ Some (misfit_at BadOperand (first_item l))
unfolding line_place
stop_amount_number l a s h = stops l (AmountNumber a ∷ s) BadOperand (amount_none a s (first_item l).terminal h) refl

chunk_goes : (s : LineStack) (n : Option ℕ) → line_advance (ChunkNumber ∷ s) (Numbered n) ≡ Some (of BadOperand Chunks, s)
unfolding line_advance
chunk_goes s n = refl

pub at_chunk_number : (l : Line) (s : LineStack) (n : Option ℕ) → (first_item l).terminal ≡ Numbered n →
    rest l (ChunkNumber ∷ s) ≡ took l (of BadOperand Chunks) s
at_chunk_number l s n e = goes l (ChunkNumber ∷ s) s (of BadOperand Chunks)
    (ap (line_advance (ChunkNumber ∷ s)) e ∙ chunk_goes s n)

pub bad_chunk_number : (l : Line) (s : LineStack) → (first_item l).terminal ≡ Numbered None →
    rest l (ChunkNumber ∷ s) ≡ Some (fault_at (first_item l) BadNumber)
bad_chunk_number l s e = at_chunk_number l s None e ∙ took_broken l act.Chunks BadNumber (Some BadOperand) s
    (ap (λ (t : Lexeme). broken_by (known_of l.known) t Chunks) e ∙ bad_breaks (known_of l.known) Chunks)

chunk_none : (s : LineStack) (t : Lexeme) → NoNumber t → line_advance (ChunkNumber ∷ s) t ≡ None
unfolding line_advance
chunk_none s (Numbered n) h = absurd h
chunk_none s (Worded x) h = refl
chunk_none s (Reserved x) h = refl
chunk_none s (Signed x) h = refl
chunk_none s Strange h = refl
chunk_none s Ended h = refl

pub stop_chunk_number : (l : Line) (s : LineStack) → NoNumber (first_item l).terminal →
    rest l (ChunkNumber ∷ s) ≡ Some (misfit_at BadOperand (first_item l))
unfolding line_place
stop_chunk_number l s h = stops l (ChunkNumber ∷ s) BadOperand (chunk_none s (first_item l).terminal h) refl

-- ---- schedules

type_goes : (t : ScheduleType) (s : LineStack) → line_advance (ScheduleHead ∷ s) (Worded (schedule_word t)) ≡ Some
    (plain, cond (takes_chunk t) AfterSchedule (w sign.CloseParen) ∷ s)
unfolding line_advance
type_goes Static s = refl
type_goes Dynamic s = refl
type_goes Guided s = refl
type_goes Auto s = refl
type_goes Runtime s = refl

pub at_type : (l : Line) (t : ScheduleType) (s : LineStack) → (first_item l).terminal ≡ Worded (schedule_word t) →
    rest l (ScheduleHead ∷ s) ≡ took l plain (cond (takes_chunk t) AfterSchedule (w sign.CloseParen) ∷ s)
at_type l t s e = goes l (ScheduleHead ∷ s) (cond (takes_chunk t) AfterSchedule (w sign.CloseParen) ∷ s) plain
    (ap (line_advance (ScheduleHead ∷ s)) e ∙ type_goes t s)

type_none : (s : LineStack) (t : Lexeme) → IsNoScheduleWord t → line_advance (ScheduleHead ∷ s) t ≡ None
unfolding line_advance
type_none s t h = rw (h.0, h.1, h.2, h.3, h.4) refl

pub stop_type : (l : Line) (s : LineStack) → IsNoScheduleWord (first_item l).terminal →
    rest l (ScheduleHead ∷ s) ≡ Some (misfit_at Unexpected (first_item l))
unfolding line_place
stop_type l s h = stops l (ScheduleHead ∷ s) Unexpected (type_none s (first_item l).terminal h) refl

comma_goes : (s : LineStack) (t : Lexeme) → same (Signed sign.Comma) t ≡ true →
    line_advance (AfterSchedule ∷ s) t ≡ Some (plain, ChunkNumber ∷ w sign.CloseParen ∷ s)
unfolding line_advance
comma_goes s t e = rw e refl

pub at_chunk : (l : Line) (s : LineStack) → same (Signed sign.Comma) (first_item l).terminal ≡ true →
    rest l (AfterSchedule ∷ s) ≡ took l plain (ChunkNumber ∷ w sign.CloseParen ∷ s)
at_chunk l s e = goes l (AfterSchedule ∷ s) (ChunkNumber ∷ w sign.CloseParen ∷ s) plain
    (comma_goes s (first_item l).terminal e)

whole_goes : (s : LineStack) (t : Lexeme) → same (Signed sign.Comma) t ≡ false → same (Signed sign.CloseParen) t ≡ true →
    line_advance (AfterSchedule ∷ s) t ≡ Some (plain, s)
unfolding line_advance
whole_goes s t p e = rw (p, e) refl

pub at_whole : (l : Line) (s : LineStack) → same (Signed sign.Comma) (first_item l).terminal ≡ false →
    same (Signed sign.CloseParen) (first_item l).terminal ≡ true → rest l (AfterSchedule ∷ s) ≡ took l plain s
at_whole l s p e = goes l (AfterSchedule ∷ s) s plain (whole_goes s (first_item l).terminal p e)

chunk_stops : (s : LineStack) (t : Lexeme) → same (Signed sign.Comma) t ≡ false → same (Signed sign.CloseParen) t ≡ false →
    line_advance (AfterSchedule ∷ s) t ≡ None
unfolding line_advance
chunk_stops s t p e = rw (p, e) refl

pub stop_chunk : (l : Line) (s : LineStack) → same (Signed sign.Comma) (first_item l).terminal ≡ false →
    same (Signed sign.CloseParen) (first_item l).terminal ≡ false →
    rest l (AfterSchedule ∷ s) ≡ Some (misfit_at Unexpected (first_item l))
unfolding line_place
stop_chunk l s p e = stops l (AfterSchedule ∷ s) Unexpected (chunk_stops s (first_item l).terminal p e) refl

-- ---- what was read

pub read_amount : (l l1 l2 l3 l4 : Line) (a : GivenAmount) (n : ℕ) →
    (first_item l).terminal ≡ Worded (amount_word (seen_amount a)) → behind l ≡ items l1 →
    (first_item l1).terminal ≡ Signed sign.OpenParen → behind l1 ≡ items l2 →
    IsSpelled (number_mark n ∷ []) (items l2) (items l3) → (first_item l3).terminal ≡ Signed sign.CloseParen →
    behind l3 ≡ items l4 → IsSpelled (clause_marks (clause.Amount a n)) (items l) (items l4)
unfolding clause_marks
read_amount l l1 l2 l3 l4 a n e b f g r h c =
    let x : List ℕ = amount_word (seen_amount a) in
    spelled_then (word_mark x ∷ sign_mark sign.OpenParen ∷ []) (number_mark n ∷ sign_mark sign.CloseParen ∷ [])
    (items l) (items l2) (items l4) (read_word l l1 l2 x e b f g)
    (spelled_then (number_mark n ∷ []) (sign_mark sign.CloseParen ∷ []) (items l2) (items l3) (items l4) r
    (spelled_one l3 (items l4) (Signed sign.CloseParen) None h tt c))

pub read_whole : (l l1 : Line) → (first_item l).terminal ≡ Signed sign.CloseParen → behind l ≡ items l1 →
    IsSpelled (chunk_marks None) (items l) (items l1)
read_whole l l1 e b = spelled_one l (items l1) (Signed sign.CloseParen) None e tt b

pub read_whole_at : (l l1 : Line) → same (Signed sign.CloseParen) (first_item l).terminal ≡ true → behind l ≡ items l1 →
    IsSpelled (chunk_marks None) (items l) (items l1)
read_whole_at l l1 e b = read_whole l l1 (sign_is l sign.CloseParen e) b

pub read_chunk : (l l1 l2 l3 : Line) (n : ℕ) → same (Signed sign.Comma) (first_item l).terminal ≡ true →
    behind l ≡ items l1 → IsSpelled (number_mark n ∷ []) (items l1) (items l2) →
    (first_item l2).terminal ≡ Signed sign.CloseParen → behind l2 ≡ items l3 →
    IsSpelled (chunk_marks (Some n)) (items l) (items l3)
read_chunk l l1 l2 l3 n e b r f c =
    spelled_first l l1 (Signed sign.Comma) None (number_mark n ∷ sign_mark sign.CloseParen ∷ []) (items l3)
    (sign_is l sign.Comma e) tt b
    (spelled_then (number_mark n ∷ []) (sign_mark sign.CloseParen ∷ []) (items l1) (items l2) (items l3) r
    (spelled_one l2 (items l3) (Signed sign.CloseParen) None f tt c))

pub read_schedule : (l l1 l2 l3 l4 : Line) (t : GivenSchedule) (o : Option ℕ) →
    (first_item l).terminal ≡ Worded (codes "schedule") → behind l ≡ items l1 →
    (first_item l1).terminal ≡ Signed sign.OpenParen → behind l1 ≡ items l2 →
    IsSpelled (word_mark (schedule_word (seen_schedule t)) ∷ []) (items l2) (items l3) →
    IsSpelled (chunk_marks o) (items l3) (items l4) → IsSpelled (clause_marks (clause.Schedule t o)) (items l) (items l4)
unfolding clause_marks
read_schedule l l1 l2 l3 l4 t o e b f g r s =
    let x : List ℕ = schedule_word (seen_schedule t) in
    spelled_then (word_mark (codes "schedule") ∷ sign_mark sign.OpenParen ∷ []) (word_mark x ∷ chunk_marks o)
    (items l) (items l2) (items l4) (read_word l l1 l2 (codes "schedule") e b f g)
    (spelled_then (word_mark x ∷ []) (chunk_marks o) (items l2) (items l3) (items l4) r s)
