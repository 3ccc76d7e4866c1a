use Rattle.bend_element.proofs.frame.frame_along.Goals as goal

pub returns-clause-within : goal.returns-clause-within
returns-clause-within c = λ x h.
    let chord = rw (← c.in_ok-length.ensures, ← c.in_ok-chord.ensures.value) at h.chord in
    record {
      chord = chord;
      normal = h.normal;
      side = c.in_ok-side.ensures.within _ _ h.normal chord;
      half = rw (← c.in_ok-length.ensures, ← c.in_ok-half.ensures.value) at h.half;
    }

pub returns-clause-place : goal.returns-clause-place
returns-clause-place c = λ l n long normal.
    let length = rw (← c.in_ok-length.ensures) at long in
    record {
      chord = rw (← c.in_ok-length.ensures, ← c.in_ok-chord.ensures.value) (c.in_ok-chord.ensures.within l length);
      normal = normal;
      half = rw (← c.in_ok-length.ensures, ← c.in_ok-half.ensures.value) (c.in_ok-half.ensures.within l length);
    }
