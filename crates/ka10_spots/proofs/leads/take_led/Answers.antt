use Rattle.ka10_spots.proofs.leads.take_led.Goals as goal

pub returns-in-Some-clause-told : goal.returns-in-Some-clause-told
returns-in-Some-clause-told g c d f fits is = record { ready = c.in-Some.ensures.told d f fits is; is = c.load_led.ensures.told d f fits is }
