-- The programs are formed, and their places cover what is asked for.
use Rattle.std.proofs.Common.{◌≡◌, ℕ, zero, suc, ◌<◌, ◌≤◌, List, [], ◌∷◌, length, Some, slice_get, refl, subst, sym, arith}
use Rattle.std.proofs.lemmas.Option.{same_Some}
use Rattle.low_code.specs.Tree.{Procedure, Program}
use Rattle.low_code.specs.Formed.{Formed}
use Rattle.register_alloc.specs.Assignment.{Assignment}
use Rattle.register_alloc.specs.Fits.{Fits}
use Rattle.register_alloc.specs.Gathered.{HaveFewParameters, HaveFewResults}
use Rattle.test_machine.specs.Lows.{AreFew, IsAsked, program, one, caller, called, crowded, dead_target, arms}

few_at : (qs : List Procedure) (f : ℕ) (q : Procedure) → AreFew qs → slice_get qs f ≡ Some q
    → (length q.params ≤ 16) × (q.results ≤ 13)
few_at [] f q h e = cc
few_at (p ∷ qs) zero q h e = subst (λ r. (length r.params ≤ 16) × (r.results ≤ 13))
    (same_Some p q e) h.0
few_at (p ∷ qs) (suc f) q h e = few_at qs f q h.1 e

-- what is asked for is inside the lists
pub record Covered (a : Assignment) (last procedures : ℕ) : Type 0 where
  pub spots : last < length a.spots
  pub saves : 0 < length a.saves
  pub masks : procedures ≤ length a.masks
  pub frames : procedures ≤ length a.frames

pub covered : (l : Program) (a : Assignment) (last procedures : ℕ) → IsAsked l last procedures
    → (Formed l → HaveFewParameters l.procs → HaveFewResults l.procs → Fits l a)
    → Covered a last procedures
covered l a last procedures asked fit =
    let fits = fit asked.formed (λ f q e. (few_at l.procs f q asked.few e).0)
    (λ f q e. (few_at l.procs f q asked.few e).1) in
    let m = fits.covers.masks in
    let f = fits.covers.frames in
    let n = asked.many in
    record {
      spots = fits.covers.variables last asked.variable;
      saves = fits.covers.sites 0 asked.site;
      masks = omega (arith, m, n);
      frames = omega (arith, f, n);
    }

-- a program that has one of these trees
pub asked_of : (l m : Program) (last procedures : ℕ) → l ≡ m → IsAsked m last procedures
    → IsAsked l last procedures
asked_of l m last procedures e h = subst (λ p. IsAsked p last procedures) (sym e) h

pub two_asked : IsAsked (program (caller ∷ called ∷ [])) 5 2
two_asked = record {
  formed = record {
    variables_once = (refl, (refl, (refl, (refl, (refl, (refl, tt))))));
    sites_once = (refl, tt);
    scoped = ((tt, ((refl, tt), (refl, (refl, tt)))), ((refl, (tt, (tt, tt))), tt));
    calls_in_range = ((omega arith, tt), (tt, tt));
    starts = (refl, omega arith);
    literals = record {
      procedures =
          ((omega arith, ((tt, tt), (tt, (tt, tt)))), ((tt, (omega arith, (omega arith, tt))), tt));
      tags = (omega arith, tt);
    };
  };
  few = ((omega arith, omega arith), ((omega arith, omega arith), tt));
  variable = refl;
  site = refl;
  many = omega arith;
}

pub crowded_asked : IsAsked (one crowded) 24 1
crowded_asked = record {
  formed = record {
    variables_once = (
      refl,
      (
        refl,
        (
          refl,
          (
            refl,
            (
              refl,
              (
                refl,
                (
                  refl,
                  (
                    refl,
                    (
                      refl,
                      (
                        refl,
                        (
                          refl,
                          (
                            refl,
                            (
                              refl,
                              (
                                refl,
                                (
                                  refl,
                                  (
                                    refl,
                                    (refl, (refl, (refl, (refl, (refl, (refl, (refl, (refl, (refl, tt))))))))),
                                  ),
                                ),
                              ),
                            ),
                          ),
                        ),
                      ),
                    ),
                  ),
                ),
              ),
            ),
          ),
        ),
      ),
    );
    sites_once = (refl, tt);
    scoped = (
      (
        refl,
        (
          refl,
          (
            refl,
            (
              refl,
              (
                refl,
                (
                  refl,
                  (
                    refl,
                    (
                      refl,
                      (
                        refl,
                        (
                          refl,
                          (
                            refl,
                            (
                              refl,
                              (
                                refl,
                                (
                                  refl,
                                  (
                                    refl,
                                    (
                                      refl,
                                      (
                                        refl,
                                        (refl, (refl, (refl, (refl, (refl, (refl, (refl, (refl, tt)))))))),
                                      ),
                                    ),
                                  ),
                                ),
                              ),
                            ),
                          ),
                        ),
                      ),
                    ),
                  ),
                ),
              ),
            ),
          ),
        ),
      ),
      tt,
    );
    calls_in_range = ((omega arith, tt), tt);
    starts = (refl, omega arith);
    literals = record {
      procedures = (
        (
          tt,
          (
            tt,
            (
              tt,
              (
                tt,
                (
                  tt,
                  (
                    tt,
                    (
                      tt,
                      (
                        tt,
                        (
                          tt,
                          (
                            tt,
                            (
                              tt,
                              (
                                tt,
                                (
                                  tt,
                                  (
                                    tt,
                                    (tt, (tt, (tt, (tt, (tt, (tt, (tt, (tt, (tt, (tt, (tt, tt))))))))))),
                                  ),
                                ),
                              ),
                            ),
                          ),
                        ),
                      ),
                    ),
                  ),
                ),
              ),
            ),
          ),
        ),
        tt,
      );
      tags = (omega arith, tt);
    };
  };
  few = ((omega arith, omega arith), tt);
  variable = refl;
  site = refl;
  many = omega arith;
}

pub dead_target_asked : IsAsked (one dead_target) 3 1
dead_target_asked = record {
  formed = record {
    variables_once = (refl, (refl, (refl, (refl, tt))));
    sites_once = (refl, tt);
    scoped = (((refl, tt), (refl, refl, (refl, tt))), tt);
    calls_in_range = ((omega arith, tt), tt);
    starts = (refl, omega arith);
    literals = record
        { procedures = (((tt, tt), (tt, tt, (tt, tt))), tt); tags = (omega arith, tt) };
  };
  few = ((omega arith, omega arith), tt);
  variable = refl;
  site = refl;
  many = omega arith;
}

pub arms_asked : IsAsked (one arms) 10 1
arms_asked = record {
  formed = record {
    variables_once =
        (refl, (refl, (refl, (refl, (refl, (refl, (refl, (refl, (refl, (refl, (refl, tt)))))))))));
    sites_once = (refl, tt);
    scoped = (
      (
        tt,
        (
          tt,
          (
            tt,
            (
              (tt, ((refl, tt), (refl, (refl, (refl, tt))), (tt, (refl, (refl, tt))))),
              (refl, refl, (refl, tt)),
            ),
          ),
        ),
      ),
      tt,
    );
    calls_in_range = ((omega arith, tt), tt);
    starts = (refl, omega arith);
    literals = record {
      procedures = (
        (
          omega arith,
          (
            omega arith,
            (
              omega arith,
              (
                (
                  omega arith,
                  (((tt, omega arith), tt), (tt, (tt, (tt, tt))), (omega arith, (tt, (tt, tt)))),
                ),
                (tt, tt, (tt, tt)),
              ),
            ),
          ),
        ),
        tt,
      );
      tags = (omega arith, tt);
    };
  };
  few = ((omega arith, omega arith), tt);
  variable = refl;
  site = refl;
  many = omega arith;
}
