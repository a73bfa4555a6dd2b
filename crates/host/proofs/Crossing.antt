-- What may be seen by several threads, or go to another one.
use denote.RattleType.{RattleType}
use denote.Ref.{NamedLft}
use denote.Param.Send.{IsSend, IsSync, recorded_send, recorded_sync, shr_send, shr_sync, struct_send, struct_sync, view_send, view_sync, sendable}
use denote.Struct.Declared as Declared
use Rattle.std.proofs.Crossing as crossing
use Rattle.base.specs.contracts.tree.Stmt as statement
use Rattle.base.specs.contracts.tree.Region as region
use Rattle.base.specs.contracts.tree.Part as part
use Rattle.base.specs.contracts.tree.Program as program
use Rattle.std.proofs.alloc.Global.TheSendSync as global
use Rattle.base.proofs.item.Event.TheSendSync as event
use Rattle.base.proofs.item.Item.TheSendSync as item
use Rattle.base.proofs.tree.Bounds.TheSendSync as bounds
use Rattle.base.proofs.tree.Directive.TheSendSync as directive
use Rattle.base.proofs.tree.Place.TheSendSync as place
use Rattle.base.proofs.tree.Target.TheSendSync as target
use Rattle.base.proofs.tree.Expr.TheLaws.TheKnot as expressions
use Rattle.base.proofs.tree.Stmt.TheLaws.TheKnot as statements
use Rattle.base.proofs.tree.Part.TheLaws.TheKnot as parts
use Rattle.outline.specs.contracts.Outlined as outlined
use Rattle.outline.specs.contracts.Outlined.TheInside as outlined_inside
use Rattle.kernel.specs.contracts.emit.Code as code
use Rattle.lower.specs.contracts.image.Image as image
use Rattle.kernel.proofs.frames.Frame.TheSendSync as frame
use Rattle.kernel.proofs.op.Op.TheSendSync as operation
use Rattle.device.specs.contracts.jobs.Job as job
use Rattle.device.proofs.standing.Standing.TheSendSync as standing
use Rattle.host.proofs.channel.Outbox.TheSendSync as outbox
use Rattle.host.specs.contracts.board.Board as board
use Rattle.host.specs.declared.origin.Origin.{Ghosts}
use Rattle.host.proofs.board.Stop.TheSendSync as stop
use Rattle.device.specs.contracts.state.RunState as state
use Rattle.device.specs.contracts.state.RunState.TheInside as state_inside

pub statement_sync : IsSync statement.the_row
statement_sync = search (crossing.crosses, expressions.crosses, statements.crosses, sendable) depth 60 fits 20000

region_field_sync : IsSync (region.the_field).row
region_field_sync = search (statement_sync, crossing.crosses, sendable) depth 60 fits 20000

pub region_sync : IsSync region.the_row
region_sync = recorded_sync (region.the_field).row _ _ (region.the_type).to_one region_field_sync

pub part_sync : IsSync part.the_row
part_sync =
    recorded_sync (part.the_field).row _ _ (part.the_type).to_one
    (parts.sync-Part region_field_sync (λ h s. search (crossing.crosses, sendable) depth 60 fits 20000)
    bounds.the_field_sync target.the_field_sync (search (crossing.crosses, sendable) depth 60 fits 20000)
    place.the_field_sync directive.the_field_sync)

pub program_sync : IsSync program.the_row
program_sync =
    recorded_sync (program.the_field).row _ _ (program.the_type).to_one
    (struct_sync (Declared.shape program.the_type) (
      search (crossing.crosses, sendable) depth 60 fits 20000,
      (
        search sendable,
        (search (part_sync, crossing.crosses, sendable) depth 60 fits 20000, tt),
      ),
    ))

outlined_inside_sync : (a : NamedLft) → IsSync (outlined_inside.the_row a)
outlined_inside_sync a =
    recorded_sync (outlined_inside.the_field a).row _ _ (outlined_inside.the_type a).to_one
    (struct_sync (Declared.shape (outlined_inside.the_type a)) (
      shr_sync _ _ program.the_row program_sync,
      (
        search (crossing.crosses, sendable) depth 60 fits 20000,
        (
          search (region_sync, crossing.crosses, sendable) depth 60 fits 20000,
          (search (item.the_sync, crossing.crosses, sendable) depth 60 fits 20000, (region_field_sync, tt)),
        ),
      ),
    ))

pub outlined_sync : (a : NamedLft) → IsSync (outlined.the_row a)
outlined_sync a = view_sync _ _ _ _ _ (outlined_inside_sync a)

pub code_sync : (a : NamedLft) → IsSync (code.the_row a)
code_sync a = search (region_sync, operation.the_sync, crossing.crosses, sendable) depth 60 fits 20000

pub image_sync : (a : NamedLft) → IsSync (image.the_row a)
image_sync a = search (outlined_sync, code_sync, crossing.crosses, sendable) depth 60 fits 20000

state_inside_send : (a : NamedLft) → IsSend (state_inside.the_row a)
state_inside_send a =
    recorded_send (state_inside.the_field a).row _ _ (state_inside.the_type a).to_one
    (struct_send (Declared.shape (state_inside.the_type a)) (
      global.the_field_send,
      (
        shr_send _ _ (image.the_row a) (image_sync a),
        (
          search sendable,
          (
            search sendable,
            (
              standing.the_field_send a,
              (search (event.the_send, crossing.crosses, sendable) depth 60 fits 20000, tt),
            ),
          ),
        ),
      ),
    ))

pub state_send : (a : NamedLft) → IsSend (state.the_row a)
state_send a = view_send _ _ _ _ _ (state_inside_send a)

pub job_send : (a : NamedLft) → IsSend (job.the_row a)
job_send a = search (code_sync, frame.the_send, crossing.crosses, sendable) depth 60 fits 20000

board_field_send : (a : NamedLft) (T : RattleType) (g : Ghosts T.Denot) → IsSend (board.the_field a T g).row
board_field_send a T g =
    struct_send (Declared.shape (board.the_type a T g)) (
      shr_send _ _ (image.the_row a) (image_sync a),
      (
        view_send _ _ _ _ _ (state_inside_send a),
        (
          search (stop.the_send, crossing.crosses, sendable) depth 60 fits 20000,
          (
            search (outbox.the_send, job_send, crossing.crosses, sendable) depth 60 fits 20000,
            (search sendable, (search sendable, (search (crossing.crosses, sendable) depth 60 fits 20000, tt))),
          ),
        ),
      ),
    )

pub board_send : (a : NamedLft) (T : RattleType) (g : Ghosts T.Denot) → IsSend (board.the_row a T g)
board_send a T g =
    recorded_send (board.the_field a T g).row _ _ (board.the_type a T g).to_one (board_field_send a T g)
