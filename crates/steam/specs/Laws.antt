-- Region 2 keeps the laws of `properties::Basic`: what it gives at p and T is what it gives at their point. Assumes nothing.
use Rattle.std.specs.Prelude.{◌≡◌, refl, Float}
use Rattle.properties.specs.Properties.{reduced_by}
use Rattle.vapour.specs.Vapour.{vapour_unrooted, vapour_response}
use Rattle.vapour.specs.declared.Vapour.{Vapour}
use Rattle.steam.specs.Region2.{gas_constant2, reducing_pressure2, reducing_temperature2, point2, unrooted_of2, response_of2}

pub points2 : (p t : Float) → point2 p t ≡ reduced_by gas_constant2 reducing_pressure2 reducing_temperature2 p t
unfolding point2
points2 p t = refl

pub properties2 : (p t : Float) (g : Vapour) → unrooted_of2 p t g ≡ vapour_unrooted (point2 p t) g
unfolding unrooted_of2
properties2 p t g = refl

pub responses2 : (p t : Float) (g : Vapour) → response_of2 p t g ≡ vapour_response (point2 p t) g
unfolding response_of2
responses2 p t g = refl
