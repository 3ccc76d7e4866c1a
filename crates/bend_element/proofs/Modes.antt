-- What holds of each way in which a bend gives.
use Rattle.bend_element.specs.ExactBend.{Mode, plane_rotation, radial_force, chord_force, radius_moment, chord_moment, normal_force}

pub by_mode : (P : Mode → Type 0) → P plane_rotation → P radial_force → P chord_force → P radius_moment → P chord_moment → P normal_force → (mode : Mode) → P mode
by_mode P a b c d e f plane_rotation = a
by_mode P a b c d e f radial_force = b
by_mode P a b c d e f chord_force = c
by_mode P a b c d e f radius_moment = d
by_mode P a b c d e f chord_moment = e
by_mode P a b c d e f normal_force = f
