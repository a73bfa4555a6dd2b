-- The frame that an owner has.
use Rattle.kernel.specs.declared.frames.Frame.{Frame}
use Rattle.device.specs.declared.shared_frame.Owner.{Owner}
use Rattle.device.specs.declared.shared_frame.Owner.TheVariants as owner

abbrev pub frame_of : Owner → Frame
frame_of (owner.Sole frame) = frame
frame_of (owner.Shared frame) = frame.value
