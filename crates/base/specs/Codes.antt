-- The codes of refusals as they are printed.
use Rattle.std.specs.Prelude.{ℕ, List, codes}
use Rattle.base.specs.declared.fault.ReadCode.{ReadCode}
use Rattle.base.specs.declared.fault.ReadCode.TheVariants.{UnknownByte, Unexpected, Undeclared, AlreadyDeclared, BadNumber, BadLength, LoopNameAssigned, BadOperand, TooDeep, TooMany, UnknownDirective, UnknownClause, ClauseCount, BadMapType, BadBound, ArrayTwice, DirectiveInTarget, OuterAssigned, HostOnly, NoBody, DirectiveUnderIf, BadDevice}
use Rattle.base.specs.declared.fault.RangeCode.{RangeCode}
use Rattle.base.specs.declared.fault.RangeCode.TheVariants.{SectionOutside, TooManyTurns, SubscriptOutside}
use Rattle.base.specs.declared.fault.RefusalCode.{RefusalCode}
use Rattle.base.specs.declared.fault.RefusalCode.TheVariants.{OverlapsInPart, ExitOfAbsent, UpdateOfAbsent, NotPresent, Unmapped, HostNotCurrent, DeviceNotCurrent, TurnsMeet, Conflict}

abbrev pub read_code : ReadCode → List ℕ
read_code UnknownByte = codes "E101"
read_code Unexpected = codes "E102"
read_code Undeclared = codes "E103"
read_code AlreadyDeclared = codes "E104"
read_code BadNumber = codes "E105"
read_code BadLength = codes "E106"
read_code LoopNameAssigned = codes "E107"
read_code BadOperand = codes "E108"
read_code TooDeep = codes "E109"
read_code TooMany = codes "E110"
read_code UnknownDirective = codes "E201"
read_code UnknownClause = codes "E202"
read_code ClauseCount = codes "E203"
read_code BadMapType = codes "E204"
read_code BadBound = codes "E205"
read_code ArrayTwice = codes "E206"
read_code DirectiveInTarget = codes "E207"
read_code OuterAssigned = codes "E208"
read_code HostOnly = codes "E209"
read_code NoBody = codes "E210"
read_code DirectiveUnderIf = codes "E211"
read_code BadDevice = codes "E212"

abbrev pub range_code : RangeCode → List ℕ
range_code SectionOutside = codes "E302"
range_code TooManyTurns = codes "E303"
range_code SubscriptOutside = codes "E301"

abbrev pub refusal_code : RefusalCode → List ℕ
refusal_code OverlapsInPart = codes "E501"
refusal_code ExitOfAbsent = codes "E502"
refusal_code UpdateOfAbsent = codes "E503"
refusal_code NotPresent = codes "E509"
refusal_code Unmapped = codes "E504"
refusal_code HostNotCurrent = codes "E506"
refusal_code DeviceNotCurrent = codes "E507"
refusal_code TurnsMeet = codes "E510"
refusal_code Conflict = codes "E508"
