use Rattle.host.proofs.split.+parts.Given as goal

abbrev pub decreases-first : goal.decreases-first
decreases-first g l = l.half

abbrev pub decreases-second : goal.decreases-second
decreases-second g l = l.half

abbrev pub decreases-in_parts : goal.decreases-in_parts
decreases-in_parts g l = l.parts
