-- The machine at the words before the clauses.
use Rattle.std.proofs.Common.{◌≡◌, ℕ, true, false, List, [], ◌∷◌, ◌++◌, Some, None, refl, sym}
use Rattle.std.specs.Prelude.{codes}
use Rattle.base.specs.declared.fault.ReadCode.TheVariants.{UnknownDirective, UnknownClause}
use Rattle.c_grammar.specs.Lexeme.{Lexeme, For, Reserved, Worded, Ended, same}
use Rattle.c_grammar.specs.LineGrammar.{Plain, Demands, of, Construct, Simd, ParallelFor, ParallelForSimd, ParallelLoop, TeamsDistribute, TeamsDistributeSimd, TeamsDistributeParallelFor, TeamsDistributeParallelForSimd, TeamsLoop, Target, Data, Enter, Exit, Update, Wait, AtomicUpdate, Combined}
use Rattle.c_grammar.specs.LineMachine.{LineStack, Want, Begin, AfterTarget, AfterParallel, AfterTeams, AfterDistribute, AfterFor, Clauses, is_word, line_advance, line_place}
use Rattle.directives.specs.declared.line.Line.{Line}
use Rattle.directives.specs.declared.tree.Directive.{Directive}
use Rattle.directives.specs.declared.tree.DirectiveKind.{DirectiveKind as GivenKind}
use Rattle.directives.specs.Cursor.{first_item, behind, items}
use Rattle.directives.specs.Reading.{rest, took, misfit_at, IsSpelled}
use Rattle.directives.specs.Trees.{word_mark, target_marks, kind_marks, head_marks, line_marks, clauses_marks}
use Rattle.directives.proofs.Moves.{goes, stops, word_is}
use Rattle.directives.proofs.Bounding.{same_rest}
use Rattle.directives.proofs.Spellings.{spelled_one, spelled_first, spelled_then, spelled_as}

-- ---- behind the word target

data_goes : (s : LineStack) (t : Lexeme) → is_word (codes "data") t ≡ true →
    line_advance (AfterTarget ∷ s) t ≡ Some (of UnknownClause Demands, Clauses Data ∷ s)
unfolding line_advance
data_goes s t e = rw e refl

pub at_data : (l : Line) (s : LineStack) → is_word (codes "data") (first_item l).terminal ≡ true →
    rest l (AfterTarget ∷ s) ≡ took l (of UnknownClause Demands) (Clauses Data ∷ s)
at_data l s e = goes l (AfterTarget ∷ s) (Clauses Data ∷ s) (of UnknownClause Demands)
    (data_goes s (first_item l).terminal e)

update_goes : (s : LineStack) (t : Lexeme) → is_word (codes "data") t ≡ false → is_word (codes "update") t ≡ true →
    line_advance (AfterTarget ∷ s) t ≡ Some (of UnknownClause Demands, Clauses Update ∷ s)
unfolding line_advance
update_goes s t d e = rw (d, e) refl

pub at_update : (l : Line) (s : LineStack) → is_word (codes "data") (first_item l).terminal ≡ false →
    is_word (codes "update") (first_item l).terminal ≡ true →
    rest l (AfterTarget ∷ s) ≡ took l (of UnknownClause Demands) (Clauses Update ∷ s)
at_update l s d e = goes l (AfterTarget ∷ s) (Clauses Update ∷ s) (of UnknownClause Demands)
    (update_goes s (first_item l).terminal d e)

enter_goes : (s : LineStack) (t : Lexeme) → is_word (codes "data") t ≡ false → is_word (codes "update") t ≡ false →
    is_word (codes "enter") t ≡ true → line_advance (AfterTarget ∷ s) t ≡ Some
    (of UnknownClause Plain, Want (Worded (codes "data")) (of UnknownDirective Demands) ∷ Clauses Enter ∷ s)
unfolding line_advance
enter_goes s t d u e = rw (d, u, e) refl

pub at_enter : (l : Line) (s : LineStack) → is_word (codes "data") (first_item l).terminal ≡ false →
    is_word (codes "update") (first_item l).terminal ≡ false → is_word (codes "enter") (first_item l).terminal ≡ true →
    rest l (AfterTarget ∷ s) ≡ took l (of UnknownClause Plain)
    (Want (Worded (codes "data")) (of UnknownDirective Demands) ∷ Clauses Enter ∷ s)
at_enter l s d u e = goes l (AfterTarget ∷ s) (Want (Worded (codes "data")) (of UnknownDirective Demands) ∷
    Clauses Enter ∷ s)
    (of UnknownClause Plain) (enter_goes s (first_item l).terminal d u e)

exit_goes : (s : LineStack) (t : Lexeme) → is_word (codes "data") t ≡ false → is_word (codes "update") t ≡ false →
    is_word (codes "enter") t ≡ false → is_word (codes "exit") t ≡ true → line_advance (AfterTarget ∷ s) t ≡ Some
    (of UnknownClause Plain, Want (Worded (codes "data")) (of UnknownDirective Demands) ∷ Clauses Exit ∷ s)
unfolding line_advance
exit_goes s t d u n e = rw (d, u, n, e) refl

pub at_exit : (l : Line) (s : LineStack) → is_word (codes "data") (first_item l).terminal ≡ false →
    is_word (codes "update") (first_item l).terminal ≡ false → is_word (codes "enter") (first_item l).terminal ≡ false →
    is_word (codes "exit") (first_item l).terminal ≡ true → rest l (AfterTarget ∷ s) ≡ took l (of UnknownClause Plain)
    (Want (Worded (codes "data")) (of UnknownDirective Demands) ∷ Clauses Exit ∷ s)
at_exit l s d u n e = goes l (AfterTarget ∷ s) (Want (Worded (codes "data")) (of UnknownDirective Demands) ∷
    Clauses Exit ∷ s)
    (of UnknownClause Plain) (exit_goes s (first_item l).terminal d u n e)

-- none of the words of other directives
abbrev pub NoOther : Lexeme → Type 0
NoOther t = (is_word (codes "data") t ≡ false) × (is_word (codes "update") t ≡ false) ×
    (is_word (codes "enter") t ≡ false) × (is_word (codes "exit") t ≡ false)

pub no_other : (t : Lexeme) → is_word (codes "data") t ≡ false → is_word (codes "update") t ≡ false →
    is_word (codes "enter") t ≡ false → is_word (codes "exit") t ≡ false → NoOther t
no_other t d u n e = (d, u, n, e)

simd_goes : (s : LineStack) (t : Lexeme) → NoOther t → is_word (codes "simd") t ≡ true →
    line_advance (AfterTarget ∷ s) t ≡ Some (of UnknownClause Plain, Clauses (Combined Simd) ∷ s)
unfolding line_advance
simd_goes s t o e = rw (o.0, o.1, o.2, o.3, e) refl

pub at_simd : (l : Line) (s : LineStack) → NoOther (first_item l).terminal →
    is_word (codes "simd") (first_item l).terminal ≡ true →
    rest l (AfterTarget ∷ s) ≡ took l (of UnknownClause Plain) (Clauses (Combined Simd) ∷ s)
at_simd l s o e = goes l (AfterTarget ∷ s) (Clauses (Combined Simd) ∷ s) (of UnknownClause Plain)
    (simd_goes s (first_item l).terminal o e)

parallel_goes : (s : LineStack) (t : Lexeme) → NoOther t → is_word (codes "simd") t ≡ false →
    is_word (codes "parallel") t ≡ true →
    line_advance (AfterTarget ∷ s) t ≡ Some (of UnknownClause Plain, AfterParallel ∷ s)
unfolding line_advance
parallel_goes s t o d e = rw (o.0, o.1, o.2, o.3, d, e) refl

pub at_parallel : (l : Line) (s : LineStack) → NoOther (first_item l).terminal →
    is_word (codes "simd") (first_item l).terminal ≡ false → is_word (codes "parallel") (first_item l).terminal ≡ true →
    rest l (AfterTarget ∷ s) ≡ took l (of UnknownClause Plain) (AfterParallel ∷ s)
at_parallel l s o d e = goes l (AfterTarget ∷ s) (AfterParallel ∷ s) (of UnknownClause Plain)
    (parallel_goes s (first_item l).terminal o d e)

teams_goes : (s : LineStack) (t : Lexeme) → NoOther t → is_word (codes "simd") t ≡ false →
    is_word (codes "parallel") t ≡ false → is_word (codes "teams") t ≡ true →
    line_advance (AfterTarget ∷ s) t ≡ Some (of UnknownClause Plain, AfterTeams ∷ s)
unfolding line_advance
teams_goes s t o d p e = rw (o.0, o.1, o.2, o.3, d, p, e) refl

pub at_teams : (l : Line) (s : LineStack) → NoOther (first_item l).terminal →
    is_word (codes "simd") (first_item l).terminal ≡ false → is_word (codes "parallel") (first_item l).terminal ≡ false →
    is_word (codes "teams") (first_item l).terminal ≡ true →
    rest l (AfterTarget ∷ s) ≡ took l (of UnknownClause Plain) (AfterTeams ∷ s)
at_teams l s o d p e = goes l (AfterTarget ∷ s) (AfterTeams ∷ s) (of UnknownClause Plain)
    (teams_goes s (first_item l).terminal o d p e)

target_not : (s : LineStack) (t : Lexeme) → NoOther t → is_word (codes "simd") t ≡ false →
    is_word (codes "parallel") t ≡ false → is_word (codes "teams") t ≡ false →
    line_advance (AfterTarget ∷ s) t ≡ line_advance (Clauses Target ∷ s) t
unfolding line_advance
target_not s t o d p e = rw (o.0, o.1, o.2, o.3, d, p, e) refl

pub no_more : (l : Line) (s : LineStack) → NoOther (first_item l).terminal →
    is_word (codes "simd") (first_item l).terminal ≡ false → is_word (codes "parallel") (first_item l).terminal ≡ false →
    is_word (codes "teams") (first_item l).terminal ≡ false → rest l (AfterTarget ∷ s) ≡ rest l (Clauses Target ∷ s)
unfolding line_place
no_more l s o d p e = same_rest l (AfterTarget ∷ s) (Clauses Target ∷ s)
    (target_not s (first_item l).terminal o d p e) refl

-- ---- the words of constructs

with_simd : (c d : Construct) (s : LineStack) (t : Lexeme) → is_word (codes "simd") t ≡ true →
    line_advance (AfterFor c d ∷ s) t ≡ Some (of UnknownClause Plain, Clauses (Combined d) ∷ s)
unfolding line_advance
with_simd c d s t e = rw e refl

pub at_with_simd : (l : Line) (c d : Construct) (s : LineStack) → is_word (codes "simd") (first_item l).terminal ≡ true →
    rest l (AfterFor c d ∷ s) ≡ took l (of UnknownClause Plain) (Clauses (Combined d) ∷ s)
at_with_simd l c d s e = goes l (AfterFor c d ∷ s) (Clauses (Combined d) ∷ s) (of UnknownClause Plain)
    (with_simd c d s (first_item l).terminal e)

without_simd : (c d : Construct) (s : LineStack) (t : Lexeme) → is_word (codes "simd") t ≡ false →
    line_advance (AfterFor c d ∷ s) t ≡ line_advance (Clauses (Combined c) ∷ s) t
unfolding line_advance
without_simd c d s t e = rw e refl

pub at_without_simd : (l : Line) (c d : Construct) (s : LineStack) →
    is_word (codes "simd") (first_item l).terminal ≡ false →
    rest l (AfterFor c d ∷ s) ≡ rest l (Clauses (Combined c) ∷ s)
unfolding line_place
at_without_simd l c d s e = same_rest l (AfterFor c d ∷ s) (Clauses (Combined c) ∷ s)
    (without_simd c d s (first_item l).terminal e) refl

for_goes : (s : LineStack) (t : Lexeme) → same (Reserved For) t ≡ true →
    line_advance (AfterParallel ∷ s) t ≡ Some (of UnknownDirective Plain, AfterFor ParallelFor ParallelForSimd ∷ s)
unfolding line_advance
for_goes s t e = rw e refl

pub at_parallel_for : (l : Line) (s : LineStack) → same (Reserved For) (first_item l).terminal ≡ true →
    rest l (AfterParallel ∷ s) ≡ took l (of UnknownDirective Plain) (AfterFor ParallelFor ParallelForSimd ∷ s)
at_parallel_for l s e = goes l (AfterParallel ∷ s) (AfterFor ParallelFor ParallelForSimd ∷ s) (of UnknownDirective Plain)
    (for_goes s (first_item l).terminal e)

parallel_loop : (s : LineStack) (t : Lexeme) → same (Reserved For) t ≡ false → is_word (codes "loop") t ≡ true →
    line_advance (AfterParallel ∷ s) t ≡ Some (of UnknownDirective Plain, Clauses (Combined ParallelLoop) ∷ s)
unfolding line_advance
parallel_loop s t d e = rw (d, e) refl

pub at_parallel_loop : (l : Line) (s : LineStack) → same (Reserved For) (first_item l).terminal ≡ false →
    is_word (codes "loop") (first_item l).terminal ≡ true →
    rest l (AfterParallel ∷ s) ≡ took l (of UnknownDirective Plain) (Clauses (Combined ParallelLoop) ∷ s)
at_parallel_loop l s d e = goes l (AfterParallel ∷ s) (Clauses (Combined ParallelLoop) ∷ s) (of UnknownDirective Plain)
    (parallel_loop s (first_item l).terminal d e)

parallel_none : (s : LineStack) (t : Lexeme) → same (Reserved For) t ≡ false → is_word (codes "loop") t ≡ false →
    line_advance (AfterParallel ∷ s) t ≡ None
unfolding line_advance
parallel_none s t d e = rw (d, e) refl

pub stop_parallel : (l : Line) (s : LineStack) → same (Reserved For) (first_item l).terminal ≡ false →
    is_word (codes "loop") (first_item l).terminal ≡ false →
    rest l (AfterParallel ∷ s) ≡ Some (misfit_at UnknownDirective (first_item l))
unfolding line_place
stop_parallel l s d e = stops l (AfterParallel ∷ s) UnknownDirective (parallel_none s (first_item l).terminal d e) refl

distribute_goes : (s : LineStack) (t : Lexeme) → is_word (codes "distribute") t ≡ true →
    line_advance (AfterTeams ∷ s) t ≡ Some (of UnknownDirective Plain, AfterDistribute ∷ s)
unfolding line_advance
distribute_goes s t e = rw e refl

pub at_distribute : (l : Line) (s : LineStack) → is_word (codes "distribute") (first_item l).terminal ≡ true →
    rest l (AfterTeams ∷ s) ≡ took l (of UnknownDirective Plain) (AfterDistribute ∷ s)
at_distribute l s e = goes l (AfterTeams ∷ s) (AfterDistribute ∷ s) (of UnknownDirective Plain)
    (distribute_goes s (first_item l).terminal e)

teams_loop : (s : LineStack) (t : Lexeme) → is_word (codes "distribute") t ≡ false → is_word (codes "loop") t ≡ true →
    line_advance (AfterTeams ∷ s) t ≡ Some (of UnknownDirective Plain, Clauses (Combined TeamsLoop) ∷ s)
unfolding line_advance
teams_loop s t d e = rw (d, e) refl

pub at_teams_loop : (l : Line) (s : LineStack) → is_word (codes "distribute") (first_item l).terminal ≡ false →
    is_word (codes "loop") (first_item l).terminal ≡ true →
    rest l (AfterTeams ∷ s) ≡ took l (of UnknownDirective Plain) (Clauses (Combined TeamsLoop) ∷ s)
at_teams_loop l s d e = goes l (AfterTeams ∷ s) (Clauses (Combined TeamsLoop) ∷ s) (of UnknownDirective Plain)
    (teams_loop s (first_item l).terminal d e)

teams_none : (s : LineStack) (t : Lexeme) → is_word (codes "distribute") t ≡ false → is_word (codes "loop") t ≡ false →
    line_advance (AfterTeams ∷ s) t ≡ None
unfolding line_advance
teams_none s t d e = rw (d, e) refl

pub stop_teams : (l : Line) (s : LineStack) → is_word (codes "distribute") (first_item l).terminal ≡ false →
    is_word (codes "loop") (first_item l).terminal ≡ false →
    rest l (AfterTeams ∷ s) ≡ Some (misfit_at UnknownDirective (first_item l))
unfolding line_place
stop_teams l s d e = stops l (AfterTeams ∷ s) UnknownDirective (teams_none s (first_item l).terminal d e) refl

distribute_simd : (s : LineStack) (t : Lexeme) → is_word (codes "simd") t ≡ true →
    line_advance (AfterDistribute ∷ s) t ≡ Some (of UnknownClause Plain, Clauses (Combined TeamsDistributeSimd) ∷ s)
unfolding line_advance
distribute_simd s t e = rw e refl

pub at_distribute_simd : (l : Line) (s : LineStack) → is_word (codes "simd") (first_item l).terminal ≡ true →
    rest l (AfterDistribute ∷ s) ≡ took l (of UnknownClause Plain) (Clauses (Combined TeamsDistributeSimd) ∷ s)
at_distribute_simd l s e = goes l (AfterDistribute ∷ s) (Clauses (Combined TeamsDistributeSimd) ∷ s)
    (of UnknownClause Plain) (distribute_simd s (first_item l).terminal e)

abbrev behind_parallel : LineStack → LineStack
behind_parallel s = Want (Reserved For) (of UnknownDirective Plain)
    ∷ AfterFor TeamsDistributeParallelFor TeamsDistributeParallelForSimd ∷ s

distribute_parallel : (s : LineStack) (t : Lexeme) → is_word (codes "simd") t ≡ false → is_word (codes "parallel") t ≡ true →
    line_advance (AfterDistribute ∷ s) t ≡ Some (of UnknownClause Plain, behind_parallel s)
unfolding line_advance
distribute_parallel s t d e = rw (d, e) refl

pub at_distribute_parallel : (l : Line) (s : LineStack) → is_word (codes "simd") (first_item l).terminal ≡ false →
    is_word (codes "parallel") (first_item l).terminal ≡ true →
    rest l (AfterDistribute ∷ s) ≡ took l (of UnknownClause Plain) (behind_parallel s)
at_distribute_parallel l s d e = goes l (AfterDistribute ∷ s) (behind_parallel s) (of UnknownClause Plain)
    (distribute_parallel s (first_item l).terminal d e)

distribute_not : (s : LineStack) (t : Lexeme) → is_word (codes "simd") t ≡ false → is_word (codes "parallel") t ≡ false →
    line_advance (AfterDistribute ∷ s) t ≡ line_advance (Clauses (Combined TeamsDistribute) ∷ s) t
unfolding line_advance
distribute_not s t d e = rw (d, e) refl

pub no_more_distribute : (l : Line) (s : LineStack) → is_word (codes "simd") (first_item l).terminal ≡ false →
    is_word (codes "parallel") (first_item l).terminal ≡ false →
    rest l (AfterDistribute ∷ s) ≡ rest l (Clauses (Combined TeamsDistribute) ∷ s)
unfolding line_place
no_more_distribute l s d e = same_rest l (AfterDistribute ∷ s) (Clauses (Combined TeamsDistribute) ∷ s)
    (distribute_not s (first_item l).terminal d e) refl

-- ---- the first word of its name

target_goes : (s : LineStack) (t : Lexeme) → is_word (codes "target") t ≡ true →
    line_advance (Begin ∷ s) t ≡ Some (of UnknownDirective Plain, AfterTarget ∷ s)
unfolding line_advance
target_goes s t e = rw e refl

pub at_target : (l : Line) (s : LineStack) → is_word (codes "target") (first_item l).terminal ≡ true →
    rest l (Begin ∷ s) ≡ took l (of UnknownDirective Plain) (AfterTarget ∷ s)
at_target l s e = goes l (Begin ∷ s) (AfterTarget ∷ s) (of UnknownDirective Plain)
    (target_goes s (first_item l).terminal e)

wait_goes : (s : LineStack) (t : Lexeme) → is_word (codes "target") t ≡ false → is_word (codes "taskwait") t ≡ true →
    line_advance (Begin ∷ s) t ≡ Some (of UnknownDirective Plain, Clauses Wait ∷ s)
unfolding line_advance
wait_goes s t d e = rw (d, e) refl

pub at_wait : (l : Line) (s : LineStack) → is_word (codes "target") (first_item l).terminal ≡ false →
    is_word (codes "taskwait") (first_item l).terminal ≡ true →
    rest l (Begin ∷ s) ≡ took l (of UnknownDirective Plain) (Clauses Wait ∷ s)
at_wait l s d e = goes l (Begin ∷ s) (Clauses Wait ∷ s) (of UnknownDirective Plain)
    (wait_goes s (first_item l).terminal d e)

-- what stands behind the word atomic
abbrev behind_atomic : LineStack → LineStack
behind_atomic s = Want (Worded (codes "update")) (of UnknownClause Plain) ∷ Clauses AtomicUpdate ∷ s

atomic_goes : (s : LineStack) (t : Lexeme) → is_word (codes "target") t ≡ false → is_word (codes "taskwait") t ≡ false →
    is_word (codes "atomic") t ≡ true → line_advance (Begin ∷ s) t ≡ Some (of UnknownDirective Plain, behind_atomic s)
unfolding line_advance
atomic_goes s t d w e = rw (d, w, e) refl

pub at_atomic : (l : Line) (s : LineStack) → is_word (codes "target") (first_item l).terminal ≡ false →
    is_word (codes "taskwait") (first_item l).terminal ≡ false →
    is_word (codes "atomic") (first_item l).terminal ≡ true →
    rest l (Begin ∷ s) ≡ took l (of UnknownDirective Plain) (behind_atomic s)
at_atomic l s d w e = goes l (Begin ∷ s) (behind_atomic s) (of UnknownDirective Plain)
    (atomic_goes s (first_item l).terminal d w e)

begin_none : (s : LineStack) (t : Lexeme) → is_word (codes "target") t ≡ false → is_word (codes "taskwait") t ≡ false →
    is_word (codes "atomic") t ≡ false → line_advance (Begin ∷ s) t ≡ None
unfolding line_advance
begin_none s t d w e = rw (d, w, e) refl

pub stop_begin : (l : Line) (s : LineStack) → is_word (codes "target") (first_item l).terminal ≡ false →
    is_word (codes "taskwait") (first_item l).terminal ≡ false →
    is_word (codes "atomic") (first_item l).terminal ≡ false →
    rest l (Begin ∷ s) ≡ Some (misfit_at UnknownDirective (first_item l))
unfolding line_place
stop_begin l s d w e = stops l (Begin ∷ s) UnknownDirective (begin_none s (first_item l).terminal d w e) refl

-- ---- what was read

-- two
pub read_both : (l l1 l2 : Line) (x y : List ℕ) → is_word x (first_item l).terminal ≡ true → behind l ≡ items l1 →
    (first_item l1).terminal ≡ Worded y → behind l1 ≡ items l2 →
    IsSpelled (word_mark x ∷ word_mark y ∷ []) (items l) (items l2)
read_both l l1 l2 x y e b f d = spelled_first l l1 (Worded x) None (word_mark y ∷ []) (items l2) (word_is l x e) tt b
    (spelled_one l1 (items l2) (Worded y) None f tt d)

-- the word target and those behind it
pub read_target : (l l1 l2 : Line) (k : GivenKind) → is_word (codes "target") (first_item l).terminal ≡ true →
    behind l ≡ items l1 → IsSpelled (target_marks k) (items l1) (items l2) →
    kind_marks k ≡ word_mark (codes "target") ∷ target_marks k → IsSpelled (kind_marks k) (items l) (items l2)
read_target l l1 l2 k e b r n = spelled_as (word_mark (codes "target") ∷ target_marks k) (kind_marks k) (items l)
    (items l2)
    (sym n) (spelled_first l l1 (Worded (codes "target")) None (target_marks k) (items l2)
    (word_is l (codes "target") e) tt b r)

-- the words before the clauses
pub read_head : (l l1 l2 l3 : Line) (k : GivenKind) → (first_item l).terminal ≡ Worded (codes "pragma") →
    behind l ≡ items l1 → (first_item l1).terminal ≡ Worded (codes "omp") → behind l1 ≡ items l2 →
    IsSpelled (kind_marks k) (items l2) (items l3) → IsSpelled (head_marks k) (items l) (items l3)
read_head l l1 l2 l3 k e b f d r = spelled_first l l1 (Worded (codes "pragma")) None
    (word_mark (codes "omp") ∷ kind_marks k)
    (items l3) e tt b (spelled_first l1 l2 (Worded (codes "omp")) None (kind_marks k) (items l3) f tt d r)

pub read_line : (l l1 : Line) (d : Directive) → IsSpelled (head_marks d.kind) (items l) (items l1) →
    IsSpelled (clauses_marks d.clauses.items ++ (Ended, None) ∷ []) (items l1) [] →
    IsSpelled (line_marks d) (items l) []
unfolding line_marks
read_line l l1 d r s = spelled_then (head_marks d.kind) (clauses_marks d.clauses.items ++ (Ended, None) ∷ []) (items l)
    (items l1) [] r s
