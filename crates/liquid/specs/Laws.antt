-- Region 1 keeps the laws of `properties::Basic`: what it gives at p and T is what it gives at their point. Assumes nothing.
use Rattle.std.specs.Prelude.{◌≡◌, refl, Float}
use Rattle.properties.specs.Properties.{reduced_by}
use Rattle.liquid.specs.Region1.{gas_constant1, reducing_pressure1, reducing_temperature1, liquid_unrooted, liquid_response, point1, unrooted_of1, response_of1}
use Rattle.liquid.specs.declared.Liquid.{Liquid}

pub points1 : (p t : Float) → point1 p t ≡ reduced_by gas_constant1 reducing_pressure1 reducing_temperature1 p t
unfolding point1
points1 p t = refl

pub properties1 : (p t : Float) (g : Liquid) → unrooted_of1 p t g ≡ liquid_unrooted (point1 p t) g
unfolding unrooted_of1
properties1 p t g = refl

pub responses1 : (p t : Float) (g : Liquid) → response_of1 p t g ≡ liquid_response (point1 p t) g
unfolding response_of1
responses1 p t g = refl
