-- Region 5 keeps the laws of `properties::Basic`: what it gives at p and T is what it gives at their point. Assumes nothing.
use Rattle.std.specs.Prelude.{◌≡◌, refl, Float}
use Rattle.properties.specs.Properties.{reduced_by}
use Rattle.vapour.specs.Vapour.{vapour_unrooted, vapour_response}
use Rattle.vapour.specs.declared.Vapour.{Vapour}
use Rattle.hot.specs.Region5.{gas_constant5, reducing_pressure5, reducing_temperature5, point5, unrooted_of5, response_of5}

pub points5 : (p t : Float) → point5 p t ≡ reduced_by gas_constant5 reducing_pressure5 reducing_temperature5 p t
unfolding point5
points5 p t = refl

pub properties5 : (p t : Float) (g : Vapour) → unrooted_of5 p t g ≡ vapour_unrooted (point5 p t) g
unfolding unrooted_of5
properties5 p t g = refl

pub responses5 : (p t : Float) (g : Vapour) → response_of5 p t g ≡ vapour_response (point5 p t) g
unfolding response_of5
responses5 p t g = refl
