-- Price classes that the checker computes by the definitions alone, so that a wrong definition is refused for its values, whatever the laws say.
use mathlib.Core.Path.{◌≡◌, refl}
use Rattle.livelock.specs.Lists.{below, sum}
use Rattle.price_classes.specs.Classes.{edges, class_of}

-- "So 0 has class 0, 1 has 1, 2 and 3 have 2, 4 has 3."
first_classes : (class_of 0 ≡ 0) × (class_of 1 ≡ 1) × (class_of 2 ≡ 2) × (class_of 3 ≡ 2) × (class_of 4 ≡ 3)
unfolding below sum edges class_of
first_classes = (refl, refl, refl, refl, refl)

-- The last edge has class 43, and the number before it 42. No edge follows: twice the last edge has class 43, too.
last_classes : (class_of 4398046511104 ≡ 43) × (class_of 4398046511103 ≡ 42) × (class_of 8796093022208 ≡ 43)
unfolding below sum edges class_of
last_classes = (refl, refl, refl)
