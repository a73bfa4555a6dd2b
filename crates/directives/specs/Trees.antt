-- What a directive stands for in the grammar: its tree, and the tokens that spell it with the columns of its names.
use Rattle.std.specs.Prelude.{ℕ, Bool, true, false, if◌then◌else◌, List, [], ◌∷◌, ◌++◌, map, Option, Some, None, codes}
use Rattle.c_tokens.specs.declared.kind.Sign.{Sign}
use Rattle.c_tokens.specs.declared.kind.Sign.TheVariants as sign
use Rattle.c_grammar.specs.Lexeme.{Lexeme, For, Reserved, Signed, Worded, Numbered, Ended, same}
use Rattle.c_grammar.specs.LineGrammar as grammar
use Rattle.directives.specs.declared.tree.Modifier.{Modifier}
use Rattle.directives.specs.declared.tree.Name.{Name}
use Rattle.directives.specs.declared.tree.Term.{Term}
use Rattle.directives.specs.declared.tree.Term.TheVariants.{Literal, Variable, Product}
use Rattle.directives.specs.declared.tree.TermSign.{TermSign}
use Rattle.directives.specs.declared.tree.TermSign.TheVariants.{Added, Taken}
use Rattle.directives.specs.declared.tree.SignedTerm.{SignedTerm}
use Rattle.directives.specs.declared.tree.Bound.{Bound}
use Rattle.directives.specs.declared.tree.Section.{Section}
use Rattle.directives.specs.declared.tree.Sections.{Sections}
use Rattle.directives.specs.declared.tree.DeviceClause.{DeviceClause}
use Rattle.directives.specs.declared.tree.DeviceClause.TheVariants.{Fixed, Looped}
use Rattle.directives.specs.declared.tree.Clause.{Clause}
use Rattle.directives.specs.declared.tree.Clause.TheVariants.{Map, Depend, Motion, NoWait, Device, Amount, Schedule}
use Rattle.directives.specs.declared.tree.Directive.{Directive}
use Rattle.directives.specs.declared.tree.Construct.{Construct}
use Rattle.directives.specs.declared.tree.Construct.TheVariants as construct
use Rattle.directives.specs.declared.tree.DirectiveKind.{DirectiveKind as GivenKind}
use Rattle.directives.specs.declared.tree.DirectiveKind.TheVariants as kind
use Rattle.directives.specs.Kinds.{seen_amount, seen_sign, seen_schedule, seen_kind, seen_modifier, seen_map, seen_depend, seen_motion}

-- ---- the tree

abbrev pub term_of : Term → grammar.Term
term_of (Literal n) = grammar.Literal (Some n)
term_of (Variable x) = grammar.Variable x.text.now
term_of (Product n x) = grammar.Product (Some n) x.text.now

abbrev pub signed_of : SignedTerm → grammar.SignedTerm
signed_of t = (seen_sign t.sign, term_of t.term)

abbrev pub bound_of : Bound → grammar.Bound
bound_of b = (term_of b.first, map signed_of b.more.items)

abbrev pub bounds_of : Option (Bound × Bound) → Option (grammar.Bound × grammar.Bound)
bounds_of None = None
bounds_of (Some b) = Some (bound_of b.0, bound_of b.1)

abbrev pub section_of : Section → grammar.Section
section_of s = (s.array.text.now, bounds_of s.bounds)

abbrev pub sections_of : Sections → grammar.Items
sections_of s = (section_of s.first, map section_of s.more.items)

abbrev pub chunk_of : Option ℕ → Option (Option ℕ)
chunk_of None = None
chunk_of (Some n) = Some (Some n)

abbrev pub device_of : DeviceClause → grammar.Device
device_of (Fixed d) = grammar.Fixed (Some d.number)
device_of (Looped x) = grammar.Looped x.text.now

abbrev pub clause_of : Clause → grammar.Clause
clause_of (Map m) = grammar.MapOf (map seen_modifier m.modifiers.items) (seen_map m.map_type)
    (sections_of m.sections)
clause_of (Depend d) = grammar.DependOf (seen_depend d.depend_type) (sections_of d.sections)
clause_of (Motion m) = grammar.MotionOf (seen_motion m.motion_type) m.present (sections_of m.sections)
clause_of NoWait = grammar.NoWait
clause_of (Device d) = grammar.DeviceOf (device_of d)
clause_of (Amount a n) = grammar.AmountOf (seen_amount a) (Some n)
clause_of (Schedule t o) = grammar.ScheduleOf (seen_schedule t) (chunk_of o)

abbrev pub text_of : Directive → grammar.LineText
text_of d = record { kind = seen_kind d.kind; clauses = map clause_of d.clauses.items }

-- ---- its tokens, a name's with its column

abbrev pub Spelling : Type 0
Spelling = List (Lexeme × Option ℕ)

abbrev pub sign_mark : Sign → Lexeme × Option ℕ
sign_mark s = (Signed s, None)

abbrev pub word_mark : List ℕ → Lexeme × Option ℕ
word_mark x = (Worded x, None)

abbrev pub number_mark : ℕ → Lexeme × Option ℕ
number_mark n = (Numbered (Some n), None)

abbrev pub name_mark : Name → Lexeme × Option ℕ
name_mark x = (Worded x.text.now, Some x.column)

abbrev pub device_mark : DeviceClause → Lexeme × Option ℕ
device_mark (Fixed d) = number_mark d.number
device_mark (Looped x) = name_mark x

-- each with the sign before it
abbrev pub each_behind : {X : Type 0} → Sign → (X → Spelling) → List X → Spelling
each_behind s f [] = []
each_behind s f (x ∷ xs) = sign_mark s ∷ (f x ++ each_behind s f xs)

abbrev pub term_marks : Term → Spelling
term_marks (Literal n) = number_mark n ∷ []
term_marks (Variable x) = name_mark x ∷ []
term_marks (Product n x) = number_mark n ∷ sign_mark sign.Star ∷ name_mark x ∷ []

-- what a token does with the term behind it, if it is a sign before one
abbrev pub sign_before : Lexeme → Option TermSign
sign_before t =
    if same (Signed sign.Plus) t then Some Added else (if same (Signed sign.Minus) t then Some Taken else None)

-- a term and the sign before it
abbrev pub signed_marks : SignedTerm → Spelling
signed_marks t = sign_mark (grammar.before_term (seen_sign t.sign)) ∷ term_marks t.term

abbrev pub terms_marks : List SignedTerm → Spelling
terms_marks [] = []
terms_marks (t ∷ ts) = signed_marks t ++ terms_marks ts

abbrev pub bound_marks : Bound → Spelling
bound_marks b = term_marks b.first ++ terms_marks b.more.items

-- with the bracket before it and the colon behind it
abbrev pub first_marks : Bound → Spelling
first_marks b = sign_mark sign.OpenBracket ∷ (bound_marks b ++ sign_mark sign.Colon ∷ [])

-- with the bracket behind it
abbrev pub second_marks : Bound → Spelling
second_marks b = bound_marks b ++ sign_mark sign.CloseBracket ∷ []

abbrev pub bounds_marks : Option (Bound × Bound) → Spelling
bounds_marks None = []
bounds_marks (Some b) = first_marks b.0 ++ second_marks b.1

unfoldable pub section_marks : Section → Spelling
section_marks s = name_mark s.array ∷ bounds_marks s.bounds

-- with the closing bracket
unfoldable pub sections_marks : Sections → Spelling
sections_marks s = (section_marks s.first ++ each_behind sign.Comma section_marks s.more.items) ++
    sign_mark sign.CloseParen ∷ []

-- a modifier and the comma behind it
abbrev pub modifier_marks : Modifier → Spelling
modifier_marks m = word_mark (grammar.modifier_word (seen_modifier m)) ∷ sign_mark sign.Comma ∷ []

abbrev pub modifiers_marks : List Modifier → Spelling
modifiers_marks [] = []
modifiers_marks (m ∷ ms) = modifier_marks m ++ modifiers_marks ms

-- present and the colon behind it
abbrev pub present_marks : Bool → Spelling
present_marks false = []
present_marks true = word_mark (grammar.modifier_word grammar.Present) ∷ sign_mark sign.Colon ∷ []

-- a type and the colon behind it
abbrev pub type_marks : List ℕ → Spelling
type_marks x = word_mark x ∷ sign_mark sign.Colon ∷ []

-- what stands behind the type of a schedule, with the closing bracket
abbrev pub chunk_marks : Option ℕ → Spelling
chunk_marks None = sign_mark sign.CloseParen ∷ []
chunk_marks (Some n) = sign_mark sign.Comma ∷ number_mark n ∷ sign_mark sign.CloseParen ∷ []

unfoldable pub clause_marks : Clause → Spelling
clause_marks (Map m) = (word_mark (codes "map") ∷ sign_mark sign.OpenParen ∷ []) ++ (modifiers_marks m.modifiers.items ++
    (type_marks (grammar.map_word (seen_map m.map_type)) ++ sections_marks m.sections))
clause_marks (Depend d) = (word_mark (codes "depend") ∷ sign_mark sign.OpenParen ∷ []) ++
    (type_marks (grammar.depend_word (seen_depend d.depend_type)) ++ sections_marks d.sections)
clause_marks (Motion m) = (word_mark (grammar.motion_word (seen_motion m.motion_type)) ∷ sign_mark sign.OpenParen ∷ [])
    ++ (present_marks m.present ++ sections_marks m.sections)
clause_marks NoWait = word_mark (codes "nowait") ∷ []
clause_marks (Device d) = (word_mark (codes "device") ∷ sign_mark sign.OpenParen ∷ []) ++
    (device_mark d ∷ sign_mark sign.CloseParen ∷ [])
clause_marks (Amount a n) = (word_mark (grammar.amount_word (seen_amount a)) ∷ sign_mark sign.OpenParen ∷ []) ++
    (number_mark n ∷ sign_mark sign.CloseParen ∷ [])
clause_marks (Schedule t o) = (word_mark (codes "schedule") ∷ sign_mark sign.OpenParen ∷ []) ++
    (word_mark (grammar.schedule_word (seen_schedule t)) ∷ chunk_marks o)

abbrev pub clauses_marks : List Clause → Spelling
clauses_marks [] = []
clauses_marks (c ∷ cs) = clause_marks c ++ clauses_marks cs

abbrev pub for_mark : Lexeme × Option ℕ
for_mark = (Reserved For, None)

-- the word simd, or nothing
abbrev pub simd_marks : Bool → Spelling
simd_marks true = word_mark (codes "simd") ∷ []
simd_marks false = []

-- the words of a construct behind parallel, behind teams distribute, behind teams, and all of them
abbrev pub parallel_marks : Construct → Spelling
parallel_marks construct.ParallelFor = for_mark ∷ []
parallel_marks construct.ParallelForSimd = for_mark ∷ word_mark (codes "simd") ∷ []
parallel_marks construct.ParallelLoop = word_mark (codes "loop") ∷ []
parallel_marks _ = []

abbrev pub distribute_marks : Construct → Spelling
distribute_marks construct.TeamsDistributeSimd = word_mark (codes "simd") ∷ []
distribute_marks construct.TeamsDistributeParallelFor = word_mark (codes "parallel") ∷ for_mark ∷ []
distribute_marks construct.TeamsDistributeParallelForSimd =
    word_mark (codes "parallel") ∷ for_mark ∷ word_mark (codes "simd") ∷ []
distribute_marks _ = []

abbrev pub teams_marks : Construct → Spelling
teams_marks construct.TeamsDistribute = word_mark (codes "distribute") ∷ distribute_marks construct.TeamsDistribute
teams_marks construct.TeamsDistributeSimd =
    word_mark (codes "distribute") ∷ distribute_marks construct.TeamsDistributeSimd
teams_marks construct.TeamsDistributeParallelFor =
    word_mark (codes "distribute") ∷ distribute_marks construct.TeamsDistributeParallelFor
teams_marks construct.TeamsDistributeParallelForSimd =
    word_mark (codes "distribute") ∷ distribute_marks construct.TeamsDistributeParallelForSimd
teams_marks construct.TeamsLoop = word_mark (codes "loop") ∷ []
teams_marks _ = []

abbrev pub construct_marks : Construct → Spelling
construct_marks construct.Simd = word_mark (codes "simd") ∷ []
construct_marks construct.ParallelFor = word_mark (codes "parallel") ∷ parallel_marks construct.ParallelFor
construct_marks construct.ParallelForSimd = word_mark (codes "parallel") ∷ parallel_marks construct.ParallelForSimd
construct_marks construct.ParallelLoop = word_mark (codes "parallel") ∷ parallel_marks construct.ParallelLoop
construct_marks construct.TeamsDistribute = word_mark (codes "teams") ∷ teams_marks construct.TeamsDistribute
construct_marks construct.TeamsDistributeSimd = word_mark (codes "teams") ∷ teams_marks construct.TeamsDistributeSimd
construct_marks construct.TeamsDistributeParallelFor =
    word_mark (codes "teams") ∷ teams_marks construct.TeamsDistributeParallelFor
construct_marks construct.TeamsDistributeParallelForSimd =
    word_mark (codes "teams") ∷ teams_marks construct.TeamsDistributeParallelForSimd
construct_marks construct.TeamsLoop = word_mark (codes "teams") ∷ teams_marks construct.TeamsLoop

-- the words behind the word target
abbrev pub target_marks : GivenKind → Spelling
target_marks kind.Target = []
target_marks kind.TargetData = word_mark (codes "data") ∷ []
target_marks kind.TargetEnterData = word_mark (codes "enter") ∷ word_mark (codes "data") ∷ []
target_marks kind.TargetExitData = word_mark (codes "exit") ∷ word_mark (codes "data") ∷ []
target_marks kind.TargetUpdate = word_mark (codes "update") ∷ []
target_marks (kind.Combined c) = construct_marks c
target_marks kind.TaskWait = []
target_marks kind.AtomicUpdate = []

abbrev pub kind_marks : GivenKind → Spelling
kind_marks kind.Target = word_mark (codes "target") ∷ target_marks kind.Target
kind_marks kind.TargetData = word_mark (codes "target") ∷ target_marks kind.TargetData
kind_marks kind.TargetEnterData = word_mark (codes "target") ∷ target_marks kind.TargetEnterData
kind_marks kind.TargetExitData = word_mark (codes "target") ∷ target_marks kind.TargetExitData
kind_marks kind.TargetUpdate = word_mark (codes "target") ∷ target_marks kind.TargetUpdate
kind_marks (kind.Combined c) = word_mark (codes "target") ∷ target_marks (kind.Combined c)
kind_marks kind.TaskWait = word_mark (codes "taskwait") ∷ []
kind_marks kind.AtomicUpdate = word_mark (codes "atomic") ∷ word_mark (codes "update") ∷ []

abbrev pub head_marks : GivenKind → Spelling
head_marks k = word_mark (codes "pragma") ∷ word_mark (codes "omp") ∷ kind_marks k

-- with the end of the line
unfoldable pub line_marks : Directive → Spelling
line_marks d = head_marks d.kind ++ (clauses_marks d.clauses.items ++ (Ended, None) ∷ [])
