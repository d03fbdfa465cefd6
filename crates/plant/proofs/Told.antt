-- What a matched answer says of what was read: where a call's result r means x and r is r', x is what r' means.
use mathlib.Core.Path.{◌≡◌, ◌∙◌, sym, ap}

-- What was read is what the matched answer means.
pub told : {R X : Type 0} (of : R → X) {x : X} {r r' : R} → of r ≡ x → r ≡ r' → x ≡ of r'
told of e p = sym e ∙ ap of p
