-- The words of a directive, as the grammar has them.
use Rattle.std.specs.Prelude.{◌≡◌, Bool, false, ◌&&◌}
use Rattle.c_grammar.specs.Lexeme.{Lexeme, Worded}
use Rattle.c_grammar.specs.LineMachine.{is_word, is_map_type}
use Rattle.c_grammar.specs.LineGrammar as grammar
use Rattle.c_grammar.specs.LineGrammar.{Modifier, Always, Present, modifier_word, takes_modifier, map_word, depend_word, map_types, Amount, TermSign, Added, Taken, Construct, ScheduleType, DirectiveKind, Target, Data, Enter, Exit, Update, Wait, AtomicUpdate, Combined, MapType, To, From, ToFrom, Alloc, Release, Delete, DependType, In, Out, InOut, MotionType, ToDevice, FromDevice}
use Rattle.directives.specs.declared.tree.DirectiveKind.{DirectiveKind as GivenKind}
use Rattle.directives.specs.declared.tree.DirectiveKind.TheVariants as kind
use Rattle.directives.specs.declared.tree.Amount.{Amount as GivenAmount}
use Rattle.directives.specs.declared.tree.Amount.TheVariants as amount
use Rattle.directives.specs.declared.tree.TermSign.{TermSign as GivenSign}
use Rattle.directives.specs.declared.tree.TermSign.TheVariants as term_sign
use Rattle.directives.specs.declared.tree.Construct.{Construct as GivenConstruct}
use Rattle.directives.specs.declared.tree.Construct.TheVariants as construct
use Rattle.directives.specs.declared.tree.ScheduleType.{ScheduleType as GivenSchedule}
use Rattle.directives.specs.declared.tree.ScheduleType.TheVariants as schedule
use Rattle.directives.specs.declared.tree.Modifier.{Modifier as GivenModifier}
use Rattle.directives.specs.declared.tree.Modifier.TheVariants as modifier
use Rattle.directives.specs.declared.tree.MapType.{MapType as GivenMap}
use Rattle.directives.specs.declared.tree.MapType.TheVariants as map_type
use Rattle.directives.specs.declared.tree.DependType.{DependType as GivenDepend}
use Rattle.directives.specs.declared.tree.DependType.TheVariants as depend_type
use Rattle.directives.specs.declared.tree.MotionType.{MotionType as GivenMotion}
use Rattle.directives.specs.declared.tree.MotionType.TheVariants as motion_type

abbrev pub seen_amount : GivenAmount → Amount
seen_amount amount.Collapse = grammar.Collapse
seen_amount amount.NumTeams = grammar.NumTeams
seen_amount amount.ThreadLimit = grammar.ThreadLimit
seen_amount amount.NumThreads = grammar.NumThreads
seen_amount amount.SimdLen = grammar.SimdLen
seen_amount amount.SafeLen = grammar.SafeLen

abbrev pub seen_sign : GivenSign → TermSign
seen_sign term_sign.Added = Added
seen_sign term_sign.Taken = Taken

abbrev pub seen_schedule : GivenSchedule → ScheduleType
seen_schedule schedule.Static = grammar.Static
seen_schedule schedule.Dynamic = grammar.Dynamic
seen_schedule schedule.Guided = grammar.Guided
seen_schedule schedule.Auto = grammar.Auto
seen_schedule schedule.Runtime = grammar.Runtime

abbrev pub seen_construct : GivenConstruct → Construct
seen_construct construct.Simd = grammar.Simd
seen_construct construct.ParallelFor = grammar.ParallelFor
seen_construct construct.ParallelForSimd = grammar.ParallelForSimd
seen_construct construct.ParallelLoop = grammar.ParallelLoop
seen_construct construct.TeamsDistribute = grammar.TeamsDistribute
seen_construct construct.TeamsDistributeSimd = grammar.TeamsDistributeSimd
seen_construct construct.TeamsDistributeParallelFor = grammar.TeamsDistributeParallelFor
seen_construct construct.TeamsDistributeParallelForSimd = grammar.TeamsDistributeParallelForSimd
seen_construct construct.TeamsLoop = grammar.TeamsLoop

abbrev pub seen_kind : GivenKind → DirectiveKind
seen_kind kind.Target = Target
seen_kind kind.TargetData = Data
seen_kind kind.TargetEnterData = Enter
seen_kind kind.TargetExitData = Exit
seen_kind kind.TargetUpdate = Update
seen_kind (kind.Combined c) = Combined (seen_construct c)
seen_kind kind.TaskWait = Wait
seen_kind kind.AtomicUpdate = AtomicUpdate

abbrev pub seen_modifier : GivenModifier → Modifier
seen_modifier modifier.Always = Always
seen_modifier modifier.Present = Present

abbrev pub seen_map : GivenMap → MapType
seen_map map_type.To = To
seen_map map_type.From = From
seen_map map_type.ToFrom = ToFrom
seen_map map_type.Alloc = Alloc
seen_map map_type.Release = Release
seen_map map_type.Delete = Delete

abbrev pub seen_depend : GivenDepend → DependType
seen_depend depend_type.In = In
seen_depend depend_type.Out = Out
seen_depend depend_type.InOut = InOut

abbrev pub seen_motion : GivenMotion → MotionType
seen_motion motion_type.To = ToDevice
seen_motion motion_type.From = FromDevice

-- the map clauses of a directive may have the type
abbrev pub allows : DirectiveKind → MapType → Bool
allows k t = is_map_type (map_types k) (Worded (map_word t))

-- no word of a modifier that the directive takes
abbrev pub IsNoModifier : DirectiveKind → Lexeme → Type 0
IsNoModifier k t = ((takes_modifier k Always && is_word (modifier_word Always) t) ≡ false) ×
    ((takes_modifier k Present && is_word (modifier_word Present) t) ≡ false)

-- no word of a map type
abbrev pub IsNoMapWord : Lexeme → Type 0
IsNoMapWord t = (is_word (map_word To) t ≡ false) × (is_word (map_word From) t ≡ false) ×
    (is_word (map_word ToFrom) t ≡ false) × (is_word (map_word Alloc) t ≡ false) ×
    (is_word (map_word Release) t ≡ false) × (is_word (map_word Delete) t ≡ false)

-- no word of a schedule
abbrev pub IsNoScheduleWord : Lexeme → Type 0
IsNoScheduleWord t = (is_word (grammar.schedule_word grammar.Static) t ≡ false) ×
    (is_word (grammar.schedule_word grammar.Dynamic) t ≡ false) ×
    (is_word (grammar.schedule_word grammar.Guided) t ≡ false) ×
    (is_word (grammar.schedule_word grammar.Auto) t ≡ false) ×
    (is_word (grammar.schedule_word grammar.Runtime) t ≡ false)

-- no word of a depend type
abbrev pub IsNoDependWord : Lexeme → Type 0
IsNoDependWord t = (is_word (depend_word In) t ≡ false) × (is_word (depend_word Out) t ≡ false) ×
    (is_word (depend_word InOut) t ≡ false)
