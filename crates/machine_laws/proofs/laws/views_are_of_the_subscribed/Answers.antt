use Rattle.machine_laws.proofs.SubscribedViews.{views_are_of_the_subscribed}
use Rattle.machine_laws.proofs.laws.views_are_of_the_subscribed.Goals as goal

pub returns : goal.returns
returns c = views_are_of_the_subscribed
