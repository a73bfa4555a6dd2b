-- The kind of a line and how many of its loops are unordered are those of its tree.
use Rattle.std.proofs.Common.{◌≡◌, ℕ, Bool, true, false, List, [], ◌∷◌, ◌++◌, Option, Some, None, refl, ap, ◌∙◌}
use Rattle.std.specs.Prelude.{codes}
use Rattle.c_tokens.specs.declared.kind.Sign.TheVariants as sign
use Rattle.base.specs.declared.fault.ReadCode.TheVariants.{BadBound}
use Rattle.c_grammar.specs.Lexeme.{Signed, Numbered}
use Rattle.c_grammar.specs.Texts.{kinds}
use Rattle.c_grammar.specs.LineGrammar.{Modifier, Collapse, NumTeams, ThreadLimit, NumThreads, SimdLen, SafeLen, LineAct, Maps, Depends, Heads, Opens, Begins, LineSlots, of, mark, Construct, Simd, ParallelFor, ParallelForSimd, ParallelLoop, TeamsDistribute, TeamsDistributeSimd, TeamsDistributeParallelFor, TeamsDistributeParallelForSimd, TeamsLoop, DirectiveKind, Target, Data, Enter, Exit, Update, Wait, AtomicUpdate, Combined, ToDevice, FromDevice, Term, Literal, Variable, Product, term, bound_sign, SignedTerm, Bound, more_terms, bound, section, Section, more_items, Items, items_from, Clause, MapOf, DependOf, MotionOf, NoWait, DeviceOf, Fixed, Looped, AmountOf, ScheduleOf, modifiers, motion, chunk, clause, clauses, head, LineText, line_slots}
use Rattle.c_grammar.specs.LineRules.{line_grammar, IsLine}
use Rattle.c_grammar.specs.LineMachine.{LineStack, line_start}
use Rattle.c_grammar.specs.Lines.{is_first, kind_of, collapsed, collapse_from, collapse_in, depth_kind, depth_of, line_depth}
use Rattle.c_grammar.proofs.LineGoes.{Goes, line_passes_text}

-- ---- the kind

abbrev text : DirectiveKind → List Clause → LineText
text k cs = record { kind = k; clauses = cs }

-- no clause begins with the word of a construct
no_simd : (cs : List Clause) → is_first (codes "simd") (kinds line_grammar (clauses cs)) ≡ false
no_simd [] = refl
no_simd (MapOf a t is ∷ cs) = refl
no_simd (DependOf t is ∷ cs) = refl
no_simd (MotionOf ToDevice p is ∷ cs) = refl
no_simd (MotionOf FromDevice p is ∷ cs) = refl
no_simd (NoWait ∷ cs) = refl
no_simd (DeviceOf v ∷ cs) = refl
no_simd (AmountOf Collapse n ∷ cs) = refl
no_simd (AmountOf NumTeams n ∷ cs) = refl
no_simd (AmountOf ThreadLimit n ∷ cs) = refl
no_simd (AmountOf NumThreads n ∷ cs) = refl
no_simd (AmountOf SimdLen n ∷ cs) = refl
no_simd (AmountOf SafeLen n ∷ cs) = refl
no_simd (ScheduleOf t o ∷ cs) = refl

no_parallel : (cs : List Clause) → is_first (codes "parallel") (kinds line_grammar (clauses cs)) ≡ false
no_parallel [] = refl
no_parallel (MapOf a t is ∷ cs) = refl
no_parallel (DependOf t is ∷ cs) = refl
no_parallel (MotionOf ToDevice p is ∷ cs) = refl
no_parallel (MotionOf FromDevice p is ∷ cs) = refl
no_parallel (NoWait ∷ cs) = refl
no_parallel (DeviceOf v ∷ cs) = refl
no_parallel (AmountOf Collapse n ∷ cs) = refl
no_parallel (AmountOf NumTeams n ∷ cs) = refl
no_parallel (AmountOf ThreadLimit n ∷ cs) = refl
no_parallel (AmountOf NumThreads n ∷ cs) = refl
no_parallel (AmountOf SimdLen n ∷ cs) = refl
no_parallel (AmountOf SafeLen n ∷ cs) = refl
no_parallel (ScheduleOf t o ∷ cs) = refl

target_is : (cs : List Clause) → kind_of (kinds line_grammar (line_slots (text Target cs))) ≡ Target
unfolding kind_of
target_is [] = refl
target_is (MapOf a t is ∷ cs) = refl
target_is (DependOf t is ∷ cs) = refl
target_is (MotionOf ToDevice p is ∷ cs) = refl
target_is (MotionOf FromDevice p is ∷ cs) = refl
target_is (NoWait ∷ cs) = refl
target_is (DeviceOf v ∷ cs) = refl
target_is (AmountOf Collapse n ∷ cs) = refl
target_is (AmountOf NumTeams n ∷ cs) = refl
target_is (AmountOf ThreadLimit n ∷ cs) = refl
target_is (AmountOf NumThreads n ∷ cs) = refl
target_is (AmountOf SimdLen n ∷ cs) = refl
target_is (AmountOf SafeLen n ∷ cs) = refl
target_is (ScheduleOf t o ∷ cs) = refl

construct_is : (c : Construct) (cs : List Clause) →
    kind_of (kinds line_grammar (line_slots (text (Combined c) cs))) ≡ Combined c
unfolding kind_of
construct_is Simd cs = refl
construct_is ParallelFor cs = rw (no_simd cs) refl
construct_is ParallelForSimd cs = refl
construct_is ParallelLoop cs = refl
construct_is TeamsDistribute cs = rw (no_simd cs, no_parallel cs) refl
construct_is TeamsDistributeSimd cs = refl
construct_is TeamsDistributeParallelFor cs = rw (no_simd cs) refl
construct_is TeamsDistributeParallelForSimd cs = refl
construct_is TeamsLoop cs = refl

pub kind_is : (k : DirectiveKind) (cs : List Clause) → kind_of (kinds line_grammar (line_slots (text k cs))) ≡ k
unfolding kind_of
kind_is Target cs = target_is cs
kind_is Data cs = refl
kind_is Enter cs = refl
kind_is Exit cs = refl
kind_is Update cs = refl
kind_is (Combined c) cs = construct_is c cs
kind_is Wait cs = refl
kind_is AtomicUpdate cs = refl

-- ---- the number of its collapse clause

abbrev slot_depth : ℕ → LineSlots → ℕ
slot_depth d [] = d
slot_depth d (x ∷ xs) = slot_depth (collapsed x.0 x.1.1 d) xs

depth_pass : (d : ℕ) (s : LineStack) (xs : LineSlots) (s' : LineStack) → Goes s xs s' →
    collapse_from d s (kinds line_grammar xs) ≡ slot_depth d xs
unfolding collapse_from
depth_pass d s [] s' p = refl
depth_pass d s (x ∷ xs) s' p = rw p.1 (depth_pass (collapsed x.0 x.1.1 d) p.0 xs s' p.2)

depth_append : (xs ys : LineSlots) (d : ℕ) → slot_depth d (xs ++ ys) ≡ slot_depth (slot_depth d xs) ys
depth_append [] ys d = refl
depth_append (x ∷ xs) ys d = depth_append xs ys (collapsed x.0 x.1.1 d)

-- no number is told in these tokens
abbrev Quiet : LineSlots → Type 0
Quiet xs = (d : ℕ) → slot_depth d xs ≡ d

quiet_both : (xs ys : LineSlots) → Quiet xs → Quiet ys → Quiet (xs ++ ys)
quiet_both xs ys h k d = depth_append xs ys d ∙ ap (λ (n : ℕ). slot_depth n ys) (h d) ∙ k d

quiet_begins : (n : Option ℕ) (d : ℕ) → collapsed (Numbered n) Begins d ≡ d
quiet_begins None d = refl
quiet_begins (Some n) d = refl

quiet_term : (t : Term) → Quiet (term t)
quiet_term (Literal n) d = quiet_begins n d
quiet_term (Variable x) d = refl
quiet_term (Product n x) d = quiet_begins n d

quiet_terms : (ts : List SignedTerm) → Quiet (more_terms ts)
quiet_terms [] d = refl
quiet_terms (t ∷ ts) d = quiet_both (term t.1) (more_terms ts) (quiet_term t.1) (quiet_terms ts) d

quiet_bound : (b : Bound) → Quiet (bound b)
quiet_bound b = quiet_both (term b.0) (more_terms b.1) (quiet_term b.0) (quiet_terms b.1)

quiet_section : (o : Option (Bound × Bound)) → Quiet (section o)
quiet_section None d = refl
quiet_section (Some b) d =
    quiet_both (bound b.0)
    ((Signed sign.Colon, of BadBound Opens) ∷ (bound b.1 ++ bound_sign sign.CloseBracket ∷ [])) (quiet_bound b.0)
    (quiet_both (bound b.1) (bound_sign sign.CloseBracket ∷ []) (quiet_bound b.1) (λ d. refl)) d

quiet_more : (act : LineAct) (ss : List Section) → Quiet (more_items act ss)
quiet_more act [] d = refl
quiet_more act (s ∷ ss) d = quiet_both (section s.1) (more_items act ss) (quiet_section s.1) (quiet_more act ss) d

quiet_items : (first act : LineAct) (is : Items) → Quiet (items_from first act is)
quiet_items first act is d =
    quiet_both (section is.0.1) (more_items act is.1 ++ mark sign.CloseParen ∷ []) (quiet_section is.0.1)
    (quiet_both (more_items act is.1) (mark sign.CloseParen ∷ []) (quiet_more act is.1) (λ d. refl)) d

quiet_modifiers : (ms : List Modifier) → Quiet (modifiers ms)
quiet_modifiers [] d = refl
quiet_modifiers (m ∷ ms) d = quiet_modifiers ms d

quiet_motion : (p : Bool) (is : Items) → Quiet (motion p is)
quiet_motion true is d = quiet_items Maps Maps is d
quiet_motion false is d = quiet_items Heads Maps is d

quiet_chunk : (o : Option (Option ℕ)) → Quiet (chunk o)
quiet_chunk None d = refl
quiet_chunk (Some None) d = refl
quiet_chunk (Some (Some n)) d = refl

clause_depth : (c : Clause) (cs : List Clause) (d : ℕ) →
    ((n : ℕ) → slot_depth n (clauses cs) ≡ collapse_in n cs) → slot_depth d (clause c ++ clauses cs) ≡ collapse_in d (c ∷ cs)
clause_depth (MapOf ms t is) cs d h =
    depth_append (clause (MapOf ms t is)) (clauses cs) d
    ∙ ap (λ (n : ℕ). slot_depth n (clauses cs)) (quiet_both (modifiers ms) _ (quiet_modifiers ms) (quiet_items Maps Maps is) d)
    ∙ h d
clause_depth (DependOf t is) cs d h =
    depth_append (clause (DependOf t is)) (clauses cs) d
    ∙ ap (λ (n : ℕ). slot_depth n (clauses cs)) (quiet_items Depends Depends is d) ∙ h d
clause_depth (MotionOf t p is) cs d h =
    depth_append (clause (MotionOf t p is)) (clauses cs) d
    ∙ ap (λ (n : ℕ). slot_depth n (clauses cs)) (quiet_motion p is d) ∙ h d
clause_depth NoWait cs d h = h d
clause_depth (DeviceOf (Fixed None)) cs d h = h d
clause_depth (DeviceOf (Fixed (Some n))) cs d h = h d
clause_depth (DeviceOf (Looped x)) cs d h = h d
clause_depth (AmountOf Collapse None) cs d h = h d
clause_depth (AmountOf Collapse (Some n)) cs d h = h n
clause_depth (AmountOf NumTeams None) cs d h = h d
clause_depth (AmountOf NumTeams (Some n)) cs d h = h d
clause_depth (AmountOf ThreadLimit None) cs d h = h d
clause_depth (AmountOf ThreadLimit (Some n)) cs d h = h d
clause_depth (AmountOf NumThreads None) cs d h = h d
clause_depth (AmountOf NumThreads (Some n)) cs d h = h d
clause_depth (AmountOf SimdLen None) cs d h = h d
clause_depth (AmountOf SimdLen (Some n)) cs d h = h d
clause_depth (AmountOf SafeLen None) cs d h = h d
clause_depth (AmountOf SafeLen (Some n)) cs d h = h d
clause_depth (ScheduleOf t o) cs d h =
    depth_append (clause (ScheduleOf t o)) (clauses cs) d
    ∙ ap (λ (n : ℕ). slot_depth n (clauses cs)) (quiet_chunk o d) ∙ h d

clauses_depth : (cs : List Clause) (d : ℕ) → slot_depth d (clauses cs) ≡ collapse_in d cs
clauses_depth [] d = refl
clauses_depth (c ∷ cs) d = clause_depth c cs d (clauses_depth cs)

head_depth : (k : DirectiveKind) (cs : List Clause) (d : ℕ) → slot_depth d (head k ++ clauses cs) ≡ collapse_in d cs
head_depth Target cs d = clauses_depth cs d
head_depth Data cs d = clauses_depth cs d
head_depth Enter cs d = clauses_depth cs d
head_depth Exit cs d = clauses_depth cs d
head_depth Update cs d = clauses_depth cs d
head_depth Wait cs d = clauses_depth cs d
head_depth AtomicUpdate cs d = clauses_depth cs d
head_depth (Combined Simd) cs d = clauses_depth cs d
head_depth (Combined ParallelFor) cs d = clauses_depth cs d
head_depth (Combined ParallelForSimd) cs d = clauses_depth cs d
head_depth (Combined ParallelLoop) cs d = clauses_depth cs d
head_depth (Combined TeamsDistribute) cs d = clauses_depth cs d
head_depth (Combined TeamsDistributeSimd) cs d = clauses_depth cs d
head_depth (Combined TeamsDistributeParallelFor) cs d = clauses_depth cs d
head_depth (Combined TeamsDistributeParallelForSimd) cs d = clauses_depth cs d
head_depth (Combined TeamsLoop) cs d = clauses_depth cs d

-- of a line of the grammar
pub depth_is : (t : LineText) → IsLine t → depth_of (kinds line_grammar (line_slots t)) ≡ line_depth t
unfolding depth_of
depth_is t h =
    let xs : LineSlots = line_slots t in
    let told : collapse_from 1 line_start (kinds line_grammar xs) ≡ collapse_in 1 t.clauses =
    depth_pass 1 line_start xs [] (line_passes_text t h) ∙ head_depth t.kind t.clauses 1 in
    ap (λ (k : DirectiveKind). depth_kind k (collapse_from 1 line_start (kinds line_grammar xs))) (kind_is t.kind t.clauses)
    ∙ ap (λ (n : ℕ). depth_kind t.kind n) told
