-- The frame of each panel of the picture, in tenths of a pixel: its distance from the left and from the upper edge, its width and its
-- height. Assumes nothing.
use Rattle.std.specs.Prelude.{ℕ}
use Rattle.cmd_picture.specs.declared.panel.Frame.{Frame}
use Rattle.cmd_picture.specs.declared.panel.Panel.{Panel}
use Rattle.cmd_picture.specs.declared.panel.Panel.TheVariants.{LateTimes, TallLateTimes, Numbers, WaitingTime, Buffer, Extents}

abbrev pub rectangle : (left top width height : ℕ) → Frame
rectangle left top width height = record { left = left; top = top; width = width; height = height }

abbrev pub frame_of : Panel → Frame
frame_of LateTimes = rectangle 800 2000 6800 3100
frame_of TallLateTimes = rectangle 800 2000 6800 7200
frame_of Numbers = rectangle 800 6000 6800 3200
frame_of WaitingTime = rectangle 8500 2000 3300 1800
frame_of Buffer = rectangle 8500 4700 3300 1800
frame_of Extents = rectangle 8500 7400 3300 1800
