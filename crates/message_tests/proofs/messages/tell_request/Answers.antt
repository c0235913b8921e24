use Rattle.kip_msgs.specs.Views.{request_value}
use Rattle.message_tests.proofs.Writable.{request_is_writable}
use Rattle.message_tests.proofs.messages.tell_request.Goals as goal

pub request_again-requires : goal.request_again-requires
request_again-requires c = request_is_writable (request_value c.in-Ok.request) c.in-Ok.ensures.found.fits
