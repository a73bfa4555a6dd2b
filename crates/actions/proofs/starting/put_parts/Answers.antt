use Rattle.std.proofs.Common.{subst}
use Rattle.std.proofs.lemmas.Result.{IfOk-weaker}
use Rattle.actions.specs.Opening.{IsKernel}
use Rattle.actions.proofs.Kernels.{put_unordered}
use Rattle.actions.proofs.Parts.{put_host, put_target, put_begin, put_enter, put_end, put_exit, put_wait, put_update, puts_entries, puts_exits}
use Rattle.actions.proofs.starting.put_parts.Goals as goal

pub returns-in-Some : goal.returns-in-Some
returns-in-Some c r order is unordered =
    put_unordered c.args.it.now r order c.args.kernel c.in-Some.field-0 c.args.table.now _ _ _ c.in-Some.is
    (subst (IsKernel c.args.it.now r) c.in-Some.is unordered) c.requires.none c.deref.ensures c.in_ok-push.ensures.pushed

pub returns-in_ok-put_region-in-Host : goal.returns-in_ok-put_region-in-Host
returns-in_ok-put_region-in-Host c r order is plain =
    put_host c.args.it.now r order c.args.kernel c.args.table.now c.in_default.is _ _ c.in-Host.is c.requires.none
    (c.in_ok-put_region-in-Host.ensures r is)

pub returns-in_ok-push-in-Target-2 : goal.returns-in_ok-push-in-Target-2
returns-in_ok-push-in-Target-2 c r order is plain =
    put_target c.args.it.now r order c.args.kernel c.args.table.now c.in_default.is _ _ _ _ c.in-Target.is c.requires.none
    (puts_exits _ c.args.it.now.maps.items _ _ c.deref.ensures c.in_ok-push-in-Target.ensures.pushed)
    (c.in_ok-put_region-in-Target.ensures r is)
    (puts_entries _ c.args.it.now.maps.items _ _ c.deref.ensures c.in_ok-push-in-Target-2.ensures.pushed)
    (subst (IsKernel c.args.it.now r) c.in_default.is plain c.in-Target.is)

pub returns-in_ok-push-in-Begin : goal.returns-in_ok-push-in-Begin
returns-in_ok-push-in-Begin c r order is plain =
    put_begin c.args.it.now r order c.args.kernel c.args.table.now c.in_default.is _ _ c.in-Begin.is c.requires.none
    (puts_entries _ c.args.it.now.maps.items _ _ c.deref.ensures c.in_ok-push-in-Begin.ensures.pushed)

pub returns-in_ok-push-in-Enter : goal.returns-in_ok-push-in-Enter
returns-in_ok-push-in-Enter c r order is plain =
    put_enter c.args.it.now r order c.args.kernel c.args.table.now c.in_default.is _ _ c.in-Enter.is c.requires.none
    (puts_entries _ c.args.it.now.maps.items _ _ c.deref.ensures c.in_ok-push-in-Enter.ensures.pushed)

pub returns-in_ok-push-in-End : goal.returns-in_ok-push-in-End
returns-in_ok-push-in-End c r order is plain =
    put_end c.args.it.now r order c.args.kernel c.args.table.now c.in_default.is _ _ c.in-End.is c.requires.none
    (puts_exits _ c.args.it.now.maps.items _ _ c.deref.ensures c.in_ok-push-in-End.ensures.pushed)

pub returns-in_ok-push-in-Exit : goal.returns-in_ok-push-in-Exit
returns-in_ok-push-in-Exit c r order is plain =
    put_exit c.args.it.now r order c.args.kernel c.args.table.now c.in_default.is _ _ c.in-Exit.is c.requires.none
    (puts_exits _ c.args.it.now.maps.items _ _ c.deref.ensures c.in_ok-push-in-Exit.ensures.pushed)

pub returns-in-Update : goal.returns-in-Update
returns-in-Update c r order is plain =
    IfOk-weaker c.put_updates.result _ _
    (λ done all.
    put_update c.args.it.now r order c.args.kernel c.args.table.now c.in_default.is _ done _ _ c.in-Update.is c.requires.none
    c.deref-in-Update.ensures all)
    c.put_updates.ensures

pub returns-in-Wait : goal.returns-in-Wait
returns-in-Wait c r order is plain =
    put_wait c.args.it.now r order c.args.kernel c.args.table.now c.in_default.is _ c.in-Wait.is c.requires.none
